-- How this crate is proved.
--
-- Carried by `AnswerLaws.next-is` (what is scanned is the first and longest token) and `answers-alone` (nothing else could be answered).
--
-- `Scanning` says what the code computes: what is left behind white space, a comment or a token. Lemmas called `..-over` say that the code
-- goes past whatever the definition allows, and `..-split` that what it went past is one (`space-`, `number-`, `sign-`, `token-`;
-- `quotable-over`, `quoted-split`). `token-over` gives the longest token: behind no token that stands there is less left. `AnswerLaws`:
-- `next-is`, `fault-is` and `only-space` for the three answers, and `answers-alone`.

-- runs, and small facts of lists
pub mod Runs
-- the code's way over white space and over each kind of token is the definition's
pub mod SpacingLaws
pub mod QuoteLaws
pub mod NumberLaws
pub mod SignLaws
pub mod TokenLaws
-- the three answers, and that one alone is right
pub mod AnswerLaws
