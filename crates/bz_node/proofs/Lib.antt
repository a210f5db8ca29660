mod Fractions
mod LeafSteps
mod LeastSteps
mod PointSteps
mod SumTests
mod WorkedNodes
