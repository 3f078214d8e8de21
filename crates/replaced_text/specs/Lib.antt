pub mod ReplacedText
