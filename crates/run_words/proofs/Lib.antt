mod Beginning
mod Indexing
mod Steps
