-- Laws between what the code answers and the rules. A reader who trusts the checker need not read further than the statements.
pub mod Answers
pub mod Rows
pub mod Trees
pub mod Whole
