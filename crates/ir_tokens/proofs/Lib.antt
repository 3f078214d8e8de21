mod Words
mod Worked
