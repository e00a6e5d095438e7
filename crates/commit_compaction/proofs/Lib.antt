mod Keeping
mod WorkedCommits
