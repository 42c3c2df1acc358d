mod Answering
mod Entries
mod Ledgers
mod Lines
mod Tokens
