-- Which lemma gives which clause:
--   Reads, of each call of the cursor     Sights (peeked, ate, ran, glanced, far-read), Words, Ahead, PairRuns
--   Scans of a whole reader               Sights.read-is, hull-is, text-read
--   goes_on, characters (typst_lexer)     Moves.exec-moved
--   column, hull of a column              Columns
--   column_laws.TokenFrame, ColumnFrame          Frame.frame, Columns.column-frame
--   see_line                              Lines.same-end
--   loops that follow a machine           Spans.sight-turn, Steps.step-go, step-last, step-end; PairRuns.sight-pairs
pub mod Ahead
pub mod Cited
pub mod Columns
pub mod Frame
pub mod Lines
pub mod Moves
pub mod PairRuns
pub mod Sights
pub mod Spans
pub mod Steps
pub mod Words
-- Which lemma gives which clause:
--   count_newlines, line_ends             LineEnds
--   Reads block_comment                   Comments
--   Reads raw                             RawTexts
--   number, is_code_point, with_digit     SpelledNumbers
--   goes_on (typst_lexer)                 CommonEats
pub mod Comments
pub mod CommonEats
pub mod LineEnds
pub mod SpelledNumbers
pub mod RawTexts
-- Which lemma gives which clause:
--   Reads text, regard text_step          Texts
--   is_plain                              PairBits.table-tells, by Tables
--   passes_before                         PairBits.tables-tell, by Tables
--   Reads link, link_laws.LinkIsPrefix         Links.link-is, Links.link-prefix-is
--   Reads ref_marker                      References
--   goes_on (typst_lexer)                 MarkupEats.markup-eats
pub mod MarkupEats
pub mod Links
pub mod PairBits
pub mod References
pub mod Tables
pub mod Texts
-- Which lemma gives which clause:
--   Reads string                          StringSteps
--   Reads of numbers                      Digits
--   Reads ident                           NameSteps
--   code_laws.CodeFrame                        typst_tokens Frame.frame
--   code_laws.CodeGoesOn                       CodeEats.code-eats
--   code_laws.CodeLooks                        the checker computes them
pub mod Digits
pub mod CodeEats
pub mod NameSteps
pub mod StringSteps
