-- What the kinds of the hall say, in the words of the rules.
pub mod Says
pub mod SaidBand
pub mod MadeKeys
