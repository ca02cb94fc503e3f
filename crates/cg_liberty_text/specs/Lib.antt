pub mod Argument
pub mod Grammar
pub mod Hint
pub mod inner
pub mod Lexeme
pub mod Statement
pub mod Text
pub mod Token
