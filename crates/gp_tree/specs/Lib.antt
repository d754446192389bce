pub mod Expression
pub mod Form
pub mod Program
pub mod Statement
pub mod TypeExpression
