-- What the contracts cite.
--     Graph   the table, the marks, what is asked of them and what is answered
pub mod Graph
