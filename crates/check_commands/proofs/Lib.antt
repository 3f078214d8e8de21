mod Edits
mod Rejected
