mod Leads
mod EntryFactsLists
mod Undecided
mod RecordedEntries
mod Operands
mod Parameters
mod PhiSteps
mod Refused
