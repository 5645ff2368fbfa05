-- What escaping and unescaping mean, and that one undoes the other. Assumes nothing.
pub mod StandsLaws
pub mod CleanLaws
pub mod BackLaws
