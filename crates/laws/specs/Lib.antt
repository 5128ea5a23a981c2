-- The laws of crate rules' definitions, in files named after those of the definitions, or after what they are about.

-- Page: places, states, and what is asked of a page
pub mod PointLaws
pub mod StateLaws
pub mod PageLaws
pub mod Links
-- Turns
pub mod TurnLaws
-- Shapes: equal places, their order, sorted places, shapes, and the copies of a group
pub mod SameLaws
pub mod OrderLaws
pub mod SortLaws
pub mod ShapeLaws
pub mod Copies
-- Shapes: the listed transforms of a flat page, each of the eight images once
pub mod FlatList
-- Flat: the numbers of a page, its borders as links, and all that is asked of a page
pub mod FlatLaws
pub mod FlatLinks
pub mod FlatPage
pub mod FlatHops
-- Rules, Groups
pub mod RuleLaws
pub mod LabelLaws
pub mod GroupLaws
-- Codes, Reasons, Check's each literal once, Book
pub mod CodeLaws
pub mod ReasonLaws
pub mod FlatReasons
pub mod OnceLaws
pub mod BookLaws
