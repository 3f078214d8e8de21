mod Bits
mod Items
mod RuleLemmas
mod DisciplineLemmas
mod Steps
mod Turns
mod Threads
mod Records
