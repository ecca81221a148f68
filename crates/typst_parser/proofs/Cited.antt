-- The names that many of these proofs cite, passed on from one place. Declares nothing.
pub use Rattle.std.proofs.Common.{Bool, IsTrue, List, None, Ok, Option, Some, [], ap, append-nil, append_assoc, arith, drop, eq-eqb, false, get_or, get_or-drop, if◌then◌else◌, inl, inr, length, length-append, length-drop, length-take-le, map, max, min, option_map, refl, reverse, rules, subst, suc, sym, take, take-append-drop, true, zero, zero-add, ℕ, ◌&&◌, ◌*◌, ◌++◌, ◌+◌, ◌-◌, ◌/◌, ◌<◌, ◌==◌, ◌^◌, ◌↔◌, ◌∙◌, ◌∷◌, ◌≡◌, ◌≤◌, ◌⊎◌}
pub use Rattle.std.proofs.Math.ListN.{set}
pub use Rattle.std.proofs.lemmas.Grind.{common_steps}
pub use Rattle.std.proofs.lemmas.List.{at_drop_more, drop-take, length-map, length-take, reverse-append, set_split, take_all, take_min, take_rest}
pub use Rattle.std.proofs.lemmas.List.Elements.{All-append, All-cons, All-drop, All-head, All-nil, All-set, All-tail, All-take}
pub use Rattle.std.proofs.lemmas.Option.{get_or_from_slice_get, none-some, same_Some, slice_get-get_or, slice_get-map, slice_get_read, slice_get_within}
pub use Rattle.std.proofs.lemmas.Str.{IsUtf8-append, IsUtf8-drop, IsUtf8-take, chars-append, encodes-chars}
pub use Rattle.std.specs.Global.{Vec}
pub use Rattle.std.specs.List.{slice_get}
pub use Rattle.std.specs.Prelude.{All, Err, IfOk, IfSome, IsErrAnd, OnErr, OnOk, Result, nat_eq, nat_le, not, option_and_then, slice_range}
pub use Rattle.std.specs.Str.{IsCharBoundary, IsUtf8, chars}
pub use Rattle.std.specs.declared.ops.Range.{Range}
pub use Rattle.typst_candidates.specs.Candidates.{Candidate}
pub use Rattle.typst_candidates.specs.Cursors.{closing_of, inside_after, leads, piece_of, token_at}
pub use Rattle.typst_candidates.specs.Edges.{IsRootEdge, LeadsBy, spelled}
pub use Rattle.typst_candidates.specs.Entries.{Units, end_of, entries_by, front_of, is_after, last_start, rear_of, spliced, units_of}
pub use Rattle.typst_candidates.specs.Nested.{Written}
pub use Rattle.typst_candidates.specs.Records.{AllFit, IsRising, Kept, is_opening, opening_of}
pub use Rattle.typst_candidates.specs.declared.entry.Entry.{Entry}
pub use Rattle.typst_edits.proofs.ForParser.{among, answer-tree-law, begins-at, block-test-law, candidate-places-law, chosen-of, in-order, in-order-law, inner-run-test-law, leaves, nested-law, onto, over-law, part-fits-law, rising-law, run-test-law, served-law, tree-inner, tree-is, unique-law, width-append, width-moved, width-none, width-onto}
pub use Rattle.typst_edits.specs.Answer.{IsAnswer, Refused}
pub use Rattle.typst_edits.specs.Answer.IsAnswer.{part, whole}
pub use Rattle.typst_edits.specs.Block.{Block}
pub use Rattle.typst_edits.specs.BlockTest.{FoundBlock, PassesAlone, SaysBlock, entries_alone, entries_in, front_in, rear_in}
pub use Rattle.typst_edits.specs.CandidatePlaces.{StandsIn}
pub use Rattle.typst_edits.specs.Edit.{Among}
pub use Rattle.typst_edits.specs.Every.{Every}
pub use Rattle.typst_edits.specs.Frame.{Gives}
pub use Rattle.typst_edits.specs.Grammar.{log, start_of, tree}
pub use Rattle.typst_edits.specs.Log.{Log}
pub use Rattle.typst_edits.specs.Note.{Note}
pub use Rattle.typst_edits.specs.Part.{ArePieces, HasRead, HasReadOn, IsBlock, block_alone}
pub use Rattle.typst_edits.specs.PieceNotes.{listed}
pub use Rattle.typst_edits.specs.Pieces.{AllGo, end_on, run_level, stops_of}
pub use Rattle.typst_edits.specs.ReadPart.{ReadPart}
pub use Rattle.typst_edits.specs.RunKind.{RunKind}
pub use Rattle.typst_edits.specs.RunTest.{BeginsAt, Ends, FoundInner, FoundRun, IsLast, LooksFrom, Reading, SaysPiece, byte_after, nodes_by, notes_by, pieces_by, reading_on}
pub use Rattle.typst_edits.specs.Served.{MeetsOn, PassesOn, RunOf, Served, reading_of}
pub use Rattle.typst_edits.specs.TextReplacement.{start_after, start_before}
pub use Rattle.typst_kinds.specs.Head.{Head, spanned}
pub use Rattle.typst_kinds.specs.Span.{Bytes, number_of}
pub use Rattle.typst_kinds.specs.declared.mode.SyntaxMode.{SyntaxMode}
pub use Rattle.typst_lines.proofs.LineTable.{bytes-length, bytes-text, chars-range, chars-split, front-ahead, front-boundary, front-chars}
pub use Rattle.typst_lines.specs.Classes.{CharClasses}
pub use Rattle.typst_lines.specs.Lines.{bytes}
pub use Rattle.typst_lines.specs.Place.{Place, moved, moved_from}
unfoldable pub use Rattle.typst_lines.specs.Place.{place_at}
pub use Rattle.typst_parser.specs.Answers.{Answers, change_of}
pub use Rattle.typst_parser.specs.Attempt.{Decides, Fails, IsPart, IsReady, Speaks, at_path}
pub use Rattle.typst_parser.specs.Find.{FindsOwn, GivesOwn, bytes_in, found, is_in_file, range_of, top}
pub use Rattle.typst_parser.specs.Headline.{AreNumbered, AreOrdered, Headline, IsNumberedIn, edited, file_of, numbered_in}
pub use Rattle.typst_parser.specs.Held.{Held}
pub use Rattle.typst_parser.specs.Records.{AreUnits, Edits, IsEdited, IsPlaced, IsPlacedBy, KeepsRecords, ReadsWhole}
pub use Rattle.typst_parser.specs.Reparse.{AreFirst, CanTake, HasTaken, NonePasses, NonePassesOf, Puts, Takes, TakesFirst, TakesPlace, first_changed}
pub use Rattle.typst_parser.specs.Steps.{AreBounds, Begins, BeginsThere, Fit, GoesOn, Grows, HasBlock, HasReadSome, HasReadTo, IsPassing, IsReadBlock, IsRunOf, IsWithBlock, Reads, ReadsInner, Serves, ServesFor, ServesNow, ServesOr, ServesRun, Settles, entries_of, place_before}
pub use Rattle.typst_parser.specs.TextReplacement.{Holds, Makes, TextReplacement, candidates, text_after, text_before}
pub use Rattle.typst_parser.specs.Tried.{AnswersEdit, Tries, change_by}
pub use Rattle.typst_parser.specs.declared.attempt.Asked.{Asked}
pub use Rattle.typst_parser.specs.declared.attempt.Attempt.{Attempt}
pub use Rattle.typst_parser.specs.declared.attempt.Bounds.{Bounds}
pub use Rattle.typst_parser.specs.declared.attempt.Passing.{Passing}
pub use Rattle.typst_parser.specs.declared.attempt.ReparsedPart.{ReparsedPart}
pub use Rattle.typst_parser.specs.declared.attempt.Run.{Run}
pub use Rattle.typst_parser.specs.declared.attempt.Serving.{Serving}
pub use Rattle.typst_parser.specs.declared.edited.Reread.{Reread}
pub use Rattle.typst_parser.specs.declared.replacement.Replacement.{Replacement}
unfoldable pub use Rattle.typst_tokens.specs.Sight.{position, width}
pub use Rattle.typst_tree.proofs.AlongPath.{along, below, exchange_none, exchange_some, inside}
pub use Rattle.typst_tree.proofs.Numbering.{joined_bare, nodes_numbered, numbered_bare, text_numbered}
pub use Rattle.typst_tree.proofs.ReplacesChildren.{joined-append, replaced_bare, replaces_text, start_le, swapped_bare, text_bare, text_over, text_split}
pub use Rattle.typst_tree.proofs.SpansAside.{forest_trees, trees_forest}
pub use Rattle.typst_tree.specs.Boundaries.{IsBoundary}
pub use Rattle.typst_tree.specs.Laws.{Along, AtPath, or_none, start_at, start_in}
pub use Rattle.typst_tree.specs.Numbers.{numbered, numbered_forest, numbered_list, placed, stride}
pub use Rattle.typst_tree.specs.Order.{AreInOrder, IsNumbered, IsOrdered, numbers_of, upper_at}
pub use Rattle.typst_tree.specs.Replace.{At, Reaches, back, exchanged, in_file, kids_of, middle, replaced, replaced_at, swapped, with_kids}
pub use Rattle.typst_tree.specs.Tree.{Forest, Tree, bare, bare_forest, count, forest, joined, more, nodes, none, places, preorder, saturated, synthesized, text_of, trees, with_each}
