-- What the proofs share.
mod Asking
mod Editing
mod Once
mod Calling
mod Figures
