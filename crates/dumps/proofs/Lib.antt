-- Laws of dumps: which records count, the reading from left to right, the last record, and the answers.
mod Equal
mod Counted
mod Scan
mod Found
mod Answers
