-- Answers: the verdict by a prepared tunnel, an answer at a time. Lists: lists made place by place.
pub mod Answers
pub mod Lists
