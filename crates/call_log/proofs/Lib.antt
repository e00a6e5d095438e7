mod Reading
mod Scanning
mod Keeping
