mod Prelude
mod TimeDigits
mod CallRecords
mod RecordBytes
mod CallLists
