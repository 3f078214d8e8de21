mod Keys
mod Names
mod NamedTraces
mod RootValues
mod Unshaped
