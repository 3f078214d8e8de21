mod Turns
mod Merged
mod Joined
mod Answered
