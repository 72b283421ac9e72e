-- What the definitions mean, and what follows from them. A file here bears the name of the file of specs/ whose laws it holds; besides,
-- Means has the form of those laws, Sums the laws of sums and counts, FirstLine which of several lines of the table is given, Zeros what "zeros
-- throughout" is word for word, TrailingZeros what a count of trailing zero bits says, and Connectives and Faults hold laws in the form that code asks for. InsertRefused, RemoveRefused and OthersRefused say of
-- each call in plain words when it gives which number.
-- The theory of lanes and marks, which builds on these files, stands in Theory/, with its own index.
pub mod Means
pub mod Lists
pub mod Sums
pub mod Connectives
pub mod HallLine
pub mod OpenLine
pub mod NodesLanesEdges
pub mod Profile
pub mod Marks
pub mod Flags
pub mod Search
pub mod Changes
pub mod Readouts
pub mod FirstLine
pub mod BoxSaysNo
pub mod Zeros
pub mod Faults
pub mod InsertRefused
pub mod RemoveRefused
pub mod OthersRefused
pub mod RuledCalls
pub mod SoundMemory
pub mod BenchCard
pub mod TrailingZeros
pub mod Wheel
pub mod Reach
pub mod BenchTable
pub mod Theory
