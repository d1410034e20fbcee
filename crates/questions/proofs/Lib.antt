-- Laws of the questions: lists of questions, what each test means, what an accepted file is like, what a refusal means.
pub mod QuestionLaws
pub mod PlainWords
pub mod AcceptedFiles
pub mod AskedLaws
pub mod RefusalMeaning
pub mod ShapePasses
pub mod PrefixLaws
pub mod WriteThenRead
pub mod ReadThenWrite
pub mod SameNetlists
