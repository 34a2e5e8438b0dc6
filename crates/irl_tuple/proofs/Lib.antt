pub mod CutLemmas
pub mod NumberLemmas
pub mod DigitLemmas
pub mod FormLemmas
pub mod HexLemmas
pub mod KeyLemmas
