-- How this crate is proved: closed tableaux and instances that span.
--
-- Carried by `SpanningLaws.spanning_closes` and `CompletenessLaws.spanning_by_any_strings`; `string_theory` goes on from there.
--
-- A list of instances spans where each way through them, one literal of each, has two complementary literals.
--
-- - *From instances to a tableau.* `SpanningLaws.spanning_closes`: by induction on the number of instances. A goal beside which there is
--   no way has an instance with a complement, one that cannot be left out; with it the path grows and the instances become fewer.
--   `WayLaws`: a way is a set of literals that hits each instance and has no pair (`way_from`, `way_passes`).
-- - *From a tableau to instances.* `CompletenessLaws.spanning_by_any_strings`: a way through the instances of a closed tableau would have
--   a pair, by `WalkLaws.walk_all` of `calculus`, whatever the length of its strings.

-- what can be said of ways
pub mod WayLaws
-- a spanning set closes a tableau
pub mod SpanningLaws
-- closed tableaux and spanning sets
pub mod CompletenessLaws
