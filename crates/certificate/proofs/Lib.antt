pub mod Between
pub mod ReadSets
pub mod ReadWords
pub mod ReadFits
pub mod ListedWords
pub mod Zipped
pub mod PrintedWords
pub mod PrintedSets
pub mod PrintedNames
pub mod PrintedLines
pub mod PrintedPromises
pub mod PrintedBlocks
mod ReadForeign
mod ReadNumbers
mod ReadOutside
mod PrintedForeign
mod PrintedNumbers
mod PrintedOutside
pub mod PrintedCerts
pub mod AnewFits
mod NoRoots
mod PlainNames
mod Begun
mod ReadShapes
pub mod CertFits
pub mod CertShapes
mod CertWhole
mod PrintedShapeLines
mod PrintedRows
mod PrintedShapeWords
mod PrintedShapeGlobals
mod PrintedShapeRoots
mod PrintedShapes
mod PrintedWhole
