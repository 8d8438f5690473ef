-- Laws between the code's own definitions and the rules. A reader who trusts the checker need not read further than the statements.
pub mod Listed
pub mod Mirroring
