mod Tests
mod Steps
