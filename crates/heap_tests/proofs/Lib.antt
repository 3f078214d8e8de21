pub mod HeapTokens
