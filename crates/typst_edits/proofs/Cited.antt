-- The names that many of these proofs cite, passed on from one place. Declares nothing.
pub use Rattle.std.proofs.Common.{Bool, IsTrue, List, None, Option, Some, [], ap, append-nil, append_assoc, arith, drop, encode_utf8, encode_utf8_all, eq-eqb, eq-zero-or-pos, false, inl, inr, le_antisymm, length, length-append, length-drop, length-take, lt_of_not-le, map, max, min, ne_eqb, not, pos_of_ne-zero, refl, subst, suc, sym, take, true, zero, ℕ, ◌&&◌, ◌*◌, ◌++◌, ◌+◌, ◌-◌, ◌<◌, ◌^◌, ◌||◌, ◌↔◌, ◌∙◌, ◌∷◌, ◌≡◌, ◌≤◌, ◌⊎◌}
pub use Rattle.std.proofs.Math.Arith.{lt_of_le-ne}
pub use Rattle.std.proofs.Math.Bool.{and-false, or-false, or_assoc}
pub use Rattle.std.proofs.Math.Seq.{drop-append-add, drop-append_seam, take-add, take-append-add, take-append_seam, take-nil}
pub use Rattle.std.proofs.lemmas.Bool.{and_from, and_left, and_parts, and_right, both_ways, cases_Bool, cases_eq, cases_lt, cond-false as if-false, cond-true as if-true, eqb-false, eqb-true, false_from_ne_true, le-leb, le-ltb, leb-false, leb-true, not-false, not-true, or_parts, or_right, true_from_ne_false}
pub use Rattle.std.proofs.lemmas.Bool.Decides.{nat_tests}
pub use Rattle.std.proofs.lemmas.List.{append_cancel_left, append_cancel_right, drop-append-le, drop-drop, drop-map, length-map, length-take-le, map-append, nil_from_length, take-append-drop, take-append-le, take-map}
pub use Rattle.std.proofs.lemmas.Option.{none-some, same_Some, slice_get_within}
pub use Rattle.std.proofs.lemmas.Str.{length-encode, length-le-encodes}
pub use Rattle.std.specs.List.{flat_map}
pub use Rattle.std.specs.Prelude.{codes, if◌then◌else◌, is_none, nat_le, nat_lt, option_and_then, option_map, slice_get, slice_range, slice_set, ◌==◌}
pub use borrow.Author.Tests.{lt-ltb, ltb-true}
pub use Rattle.typst_candidates.proofs.Edges.{begins_first, begins_order, begun_none}
pub use Rattle.typst_candidates.proofs.Looks.{front-law, rear-law}
pub use Rattle.typst_candidates.proofs.Nested.{closing-found, token-of}
pub use Rattle.typst_candidates.specs.Candidates.{Candidate, Child, ChildRange, back_past, begins, child_at, child_ranges, clings, covers, end_near, first_near, holds_at, is_all, is_among, is_hash, laid, leads, of_child_ranges, of_children, of_run, on_past, run_in, with_hash}
unfoldable pub use Rattle.typst_candidates.specs.Candidates.{candidates_at}
pub use Rattle.typst_candidates.specs.Cursors.{closing_of}
pub use Rattle.typst_candidates.specs.Entries.{Units, back_of, block_end, count_of, entries_by, entry_kind_of, entry_of, front_of, last_start, rear_of, spliced, units_by, units_of}
pub use Rattle.typst_candidates.specs.Nested.{Nested}
pub use Rattle.typst_candidates.specs.Records.{AllBegin, AllEnd, AllFit, IsRising, opening_of}
pub use Rattle.typst_candidates.specs.Units.{after_first, cuts_in, is_closing, opens_content, starts, top_cuts, up_to_end}
pub use Rattle.typst_candidates.specs.declared.entry.Entry.{Entry}
pub use Rattle.typst_candidates.specs.declared.entry.EntryKind.{EntryKind}
pub use Rattle.typst_edits.specs.Answer.{CandidateLaw, Refused, Worth, candidates, candidates_between, file_of, numbered_in}
pub use Rattle.typst_edits.specs.Answer.IsAnswer.{part}
pub use Rattle.typst_edits.specs.BlockRuns.{EndsBefore, InnerLaw, body_of, bracket, close_at, content_of, content_with, inner, inner_close, inner_lead, inner_run, inner_tail, left_at, look_again, look_first, opened_at, run_at, run_of, tail_at}
pub use Rattle.typst_edits.specs.BlockSplice.{block_log, closing}
pub use Rattle.typst_edits.specs.BlockTest.{SaysBlock, entries_alone, entries_in, front_in, rear_in}
pub use Rattle.typst_edits.specs.Bytes.{highest, lowest}
pub use Rattle.typst_edits.specs.CandidateRuns.{InnerPiecesOfLaw, IsPieces, RootPiecesOfLaw}
pub use Rattle.typst_edits.specs.Children.{BackLaw, ChildrenLaw, NodeLaw, Settles, block_with, exchanged, kids_in, kids_of_run, with_children}
pub use Rattle.typst_edits.specs.Edit.{AllBeginIn, AllEndBy, Among, Edited, Passes, alter, put, replaced, text_with}
pub use Rattle.typst_edits.specs.Edit.Among.{that, this}
pub use Rattle.typst_edits.specs.EmptyRuns.{EmptyBlockLaw, EmptyTextLaw, IsEmpty}
pub use Rattle.typst_edits.specs.Every.{Every}
pub use Rattle.typst_edits.specs.Frame.{After, Agrees, Before, Gives, PassesPieces, Run, cut_at, end_by, is_over, nodes_now, of_block, of_pieces, opened_by, path_to, read_as, top}
pub use Rattle.typst_edits.specs.Heads.{GoesOnWell, StartsWell, after_known, begins_wrong, first_place, minds_at, onwards_by}
pub use Rattle.typst_edits.specs.Hole.{Deep, Hole, after_nodes, between_parens, change_hole, changed_deep, fill, first_hole, in_node, in_nodes, lack_hole, path_in, path_of, plug, stub, warned_head, wrap_hole, wrap_in, wrap_past}
pub use Rattle.typst_edits.specs.Hole.Deep.{under}
pub use Rattle.typst_edits.specs.InOrder.{InOrderLaw}
pub use Rattle.typst_edits.specs.InnerBytes.{inner_both, inner_end}
pub use Rattle.typst_edits.specs.InnerJoint.{IsRun, is_block_run, is_text_run, left_past, onwards_past}
pub use Rattle.typst_edits.specs.InnerPiecesTest.{InnerEntries, InnerEntriesLaw, InnerOnceLaw, InnerPart, InnerPartLaw, InnerTestLaw, InnerUnitsLaw, level_in}
pub use Rattle.typst_edits.specs.Joins.{Around, Encloses, PassesJoint}
pub use Rattle.typst_edits.specs.Joint.{Exchanged, Meets, is_over_at, minds, onwards, passed}
pub use Rattle.typst_edits.specs.JointBytes.{JointDecisionLaw, asked_past}
pub use Rattle.typst_edits.specs.KeptNodes.{StandsBetween}
pub use Rattle.typst_edits.specs.Laws.{block_at}
unfoldable pub use Rattle.typst_edits.specs.Laws.{blocks_of_text}
pub use Rattle.typst_edits.specs.Leading.{Leading, LeadingInner, LeadsAt, TakesSome, bytes_of, markup_from, opening_child, run_from, token_after, token_byte, token_past}
pub use Rattle.typst_edits.specs.Looks.{AllFrom}
pub use Rattle.typst_edits.specs.Lost.{is_opening, opened}
unfoldable pub use Rattle.typst_edits.specs.Lost.{call_lost, lost, lost_of_text}
pub use Rattle.typst_edits.specs.Named.{Named}
pub use Rattle.typst_edits.specs.Nested.{NestedBlock, NestedBlockLaw, NestedInnerLaw, NestedLaw}
pub use Rattle.typst_edits.specs.NumberedNotes.{CutsLaw, InnerCutsLaw, InnerNumberLaw, NumberLaw, Numbered, NumberedInner, NumberedInnerLaw, NumberedRun, NumberedRunLaw, SaysOf, cut_after, of_level}
pub use Rattle.typst_edits.specs.Occurrences.{Spots, block_spots, bounded_spots, goes, grown_spot, growths_spots, joined_spots, last_spot, level_spots, nestings_spots, reshaped_spot, scoped_spot, turns_spots, wrapped_spot}
unfoldable pub use Rattle.typst_edits.specs.Occurrences.{call_spots, growing_spots, nesting_spots, repeated_spots, spots}
pub use Rattle.typst_edits.specs.OneReading.{EndsNew, EndsOld, GivesAgain, GivesAgainLaw, OneReadingLaw, ServesMore, TakesNone, again_end}
pub use Rattle.typst_edits.specs.OpensApart.{OpensApartLaw}
pub use Rattle.typst_edits.specs.PieceNotes.{InnerNotesLaw, RunNotesLaw, Says, listed}
pub use Rattle.typst_edits.specs.PiecesTest.{CutOnceLaw, GivesPieces, ReadLaw, ReadsPieces, RunEntries, RunEntriesLaw, RunGives, RunGivesLaw, RunPartLaw, end_alone, front_count, read_alone, rear_count}
pub use Rattle.typst_edits.specs.Replaced.{Begins}
pub use Rattle.typst_edits.specs.Resumed.{CountLaw, ResumeLaw, Resumes, SamePiece, SamePieces, fresh, read_again}
pub use Rattle.typst_edits.specs.Rising.{Rising}
pub use Rattle.typst_edits.specs.RunBytes.{PieceNote, RunDecisionLaw, both_end}
pub use Rattle.typst_edits.specs.RunNumbers.{InnerNumbers, InnerNumbersLaw, RunNumbers, RunNumbersLaw, cut_in, cut_of, number_in, number_of}
pub use Rattle.typst_edits.specs.RunPieces.{BeginsWell, StandsAt, block_run, root_run}
pub use Rattle.typst_edits.specs.RunSplice.{AroundSpliceLaw, EndsBare, end_note, levels_of, looks_next, note_at, noted_at, number_at, own_of, pieces_log}
pub use Rattle.typst_edits.specs.RunTest.{BeginsAt, FoundInner, FoundRun, InnerRunTestLaw, IsLast, PassesRead, RunTestLaw, SaysPiece, nodes_by, notes_by, reading_on}
pub use Rattle.typst_edits.specs.RunTrees.{given, run_mark}
pub use Rattle.typst_edits.specs.Runs.{lead, piece_at, start, tail, text_run, whole_of}
pub use Rattle.typst_edits.specs.Sequence.{AllGo, End, Sequence, asks_of, chain, end_of, first_end, first_of, made, nodes_after, onwards_at, read_by, rest_of, standing_by, then_end, then_of, then_place, together, trivia_before, turn_of}
pub use Rattle.typst_edits.specs.Served.{MeetsOn, PassesOn, Served, reading_of}
pub use Rattle.typst_edits.specs.Splice.{AllNotedBy, Noting, SpliceLaw, entries_from, notes_in, noting, token_start}
pub use Rattle.typst_edits.specs.Spot.{Fits, Spot, after_spot, around, block_head, closed_spot, ended, here_spot, kind_of, last_node, lower, lowered, rehole, sunk_spot, then_spot, unit_at, valued}
pub use Rattle.typst_edits.specs.Standing.{IsOf, StandingLaw, Stems, UnnotedLaw, block_seconds, from_second, from_unit, is_block_head, level_seconds, place_of}
unfoldable pub use Rattle.typst_edits.specs.Standing.{call_seconds, seconds, seconds_of_text}
pub use Rattle.typst_edits.specs.TextReplacement.{TextReplacement, replacing, start_after, start_before, text_after, text_before}
pub use Rattle.typst_grammar.proofs.Fine.{and-both, change_by, is_ordinary, making_by, shape_by}
pub use Rattle.typst_grammar.proofs.FineRuns.{PlainBy, after-shape-known, gives-all, gives-run, if_by, op_by, plain-weaker}
pub use Rattle.typst_grammar.proofs.Firsts.{moves-inside, some-ahead}
pub use Rattle.typst_grammar.proofs.Guarded.{Guarded, guarded-blocks, guarded-close, guarded-deep, guarded-deeper, guarded-inside-code, guarded-inside-content, guarded-node, guarded-production, guarded-whole, op_notes, sees}
pub use Rattle.typst_grammar.proofs.InRuns.{lawful-block}
pub use Rattle.typst_grammar.proofs.Knot.{ordinary-code, ordinary-content, ordinary-production, ordinary-whole}
pub use Rattle.typst_grammar.proofs.Pieces.{asks-append, end-append, go-append, made-sum}
pub use Rattle.typst_grammar.proofs.PlainCode.{inside_code}
pub use Rattle.typst_grammar.proofs.PlainParts.{inside_content}
unfoldable pub use Rattle.typst_grammar.specs.Embedded.{embedded, embedded_end, embedded_expr}
unfoldable pub use Rattle.typst_grammar.specs.Equations.{between_dollars, equation}
pub use Rattle.typst_grammar.specs.Grammar.{block_production, level_at, max_depth, parsed, production, rules, start_of}
unfoldable pub use Rattle.typst_grammar.specs.Grammar.{log, tree, whole}
pub use Rattle.typst_grammar.specs.Markup.{ends, ends_block, markup_by, markup_head, markup_reading}
unfoldable pub use Rattle.typst_grammar.specs.Markup.{content_block, delimited, direct_content, heading, item, markup, markup_expr, markup_exprs, markup_is_empty, markup_run, markup_turn, note_piece, reference, term_item}
pub use Rattle.typst_grammar.specs.Part.{IsOver, block_alone}
pub use Rattle.typst_grammar.specs.Pieces.{end_on, first_look, run_level, stops_of}
pub use Rattle.typst_grammar.specs.Sequences.{code_reading}
unfoldable pub use Rattle.typst_grammar.specs.Sequences.{code_block}
pub use Rattle.typst_grammar.specs.declared.part.RunKind.{RunKind}
pub use Rattle.typst_grammar.specs.head.MarkupHead.{MarkupHead}
pub use Rattle.typst_kinds.specs.Head.{Head, bare_head, inner_head}
pub use Rattle.typst_kinds.specs.Kinds.{is_block, is_error, is_trivia, same}
pub use Rattle.typst_kinds.specs.Span.{SpanValue}
pub use Rattle.typst_kinds.specs.declared.kind.SyntaxKind.{SyntaxKind}
pub use Rattle.typst_kinds.specs.declared.mode.SyntaxMode.{SyntaxMode}
pub use Rattle.typst_language.proofs.Backs.{backs-joined, backs-turns, changed-long, left-empties, shape-counts, tidy-grew, tidy-nestings}
pub use Rattle.typst_language.proofs.Ends.{hand-again, hand-ends, hand-takes, token-ends, token-takes}
pub use Rattle.typst_language.proofs.Frame.{framed-done, framed-nestings, framed-turns, grew-asks, grown-asks, hand-frame}
pub use Rattle.typst_language.proofs.HintedNodes.{hinted-append, length-hinted, standing-joined}
pub use Rattle.typst_language.proofs.Knot.{Sane, sane-at, sane-block, sane-meaning, sane-plain, sane-run}
pub use Rattle.typst_language.proofs.Leaves.{Holds, Keeps, blank-nil, kept-grown, kept-joined, same-hinted, text-add, text-made, text-shaped, texts, texts-append, texts-first, texts-one, texts-same}
pub use Rattle.typst_language.proofs.Logs.{logged-append}
pub use Rattle.typst_language.proofs.Looks.{len-covers, same_in-first, same_in-second, same_in-shift, same_in-sunk, token-same}
pub use Rattle.typst_language.proofs.Places.{ahead-left, drop-all, length-less, less-append, less-none, moved-ahead, moved-min, moved-sum, take-all}
pub use Rattle.typst_language.proofs.Rests.{Rests}
pub use Rattle.typst_language.proofs.Runs.{shape-known}
pub use Rattle.typst_language.proofs.Within.{and-second, grew, on_both, on_if, turns-enough}
pub use Rattle.typst_language.specs.Ask.{Ask, SameIn, only_looks, shift, shift_one, sink_one, sunk}
pub use Rattle.typst_language.specs.Ask.Ask.{looked, marked}
pub use Rattle.typst_language.specs.Calls.{Answer, Call}
pub use Rattle.typst_language.specs.Calls.Call.{MarkupExpr}
pub use Rattle.typst_language.specs.Depth.{anywhere, is_end}
unfoldable pub use Rattle.typst_language.specs.Depth.{deeper, skip_one, too_deep}
pub use Rattle.typst_language.specs.Faults.{hints, message}
unfoldable pub use Rattle.typst_language.specs.Fields.{access_node}
pub use Rattle.typst_language.specs.Hand.{Ahead, AtHand, Hand, after_trivia, ahead_asks_of, ahead_by, ahead_of, as_at_hand, asks_by, asks_column, at_trivia, column_asks, column_look, direct, hand_by, judged, known_by, len_at, len_by, text_ahead, token_at, token_by, utf8_ahead}
unfoldable pub use Rattle.typst_language.specs.Hand.{ahead, ahead_asks, column_at, hand_asks, hand_at}
pub use Rattle.typst_language.specs.Knot.{Rules, blocks_of, level_of}
unfoldable pub use Rattle.typst_language.specs.Knot.{meaning_of}
pub use Rattle.typst_language.specs.Log.{Log, logged, no_log, with_note}
pub use Rattle.typst_language.specs.Meaning.{Level, Meaning, Outcome, answered, as_last, asked, before, blockless, bound, bounded, chosen, closed, deeper_by_one, done, entered, flushed_state, followed, gave, given_up, grown, growths, hand_asks_of, hand_of, hints_before, inside, is_more, joined, left, left_to, nestings, node_by, plain, reader_so, renewed, reshaped, same_mode, standing, start_point, taken_node, turns, wrapped}
unfoldable pub use Rattle.typst_language.specs.Meaning.{growing, less, nesting, repeated, run}
pub use Rattle.typst_language.specs.Nodes.{has_fields, is_raw, token_node}
pub use Rattle.typst_language.specs.Point.{Point, Trivia, forgot, gap_of, no_newlines, pending, point_of, state_of}
unfoldable pub use Rattle.typst_language.specs.Raw.{raw_node}
unfoldable pub use Rattle.typst_language.specs.RawLines.{inline_leaves, later_lines}
pub use Rattle.typst_language.specs.Shape.{Making, NodeChange, Seen, Shape, after_change, after_node, after_shape, becomes, changed, count_empty, encloses, ends_with, first_changed, hinted, hinted_error, hinted_last, in_parens, is_delimited, is_sign, parens_renamed, renamed_last, seen, shaped, without_parens}
pub use Rattle.typst_language.specs.Shape.Making.{itself, of_kind, surprise}
pub use Rattle.typst_language.specs.Shape.NodeChange.{is_not, renamed, stays, turns_wrong, unparened}
pub use Rattle.typst_language.specs.Shape.Shape.{fails, holds, keeps, lacks, warns}
pub use Rattle.typst_language.specs.Sound.{Backs, Framed, Stands, Tidy, Within}
pub use Rattle.typst_language.specs.Steps.{peek}
unfoldable pub use Rattle.typst_language.specs.Steps.{close_if, convert_and_eat, eat, eat_if, eat_making, expect, expected, flush_trivia, grow, nest, node, node_with_trivia, note, read_block, unexpected, within}
pub use Rattle.typst_language.specs.Syntax.{Begin, Op, Parser, ◌>>=◌, ◌>>◌}
pub use Rattle.typst_language.specs.Syntax.Begin.{at_token}
pub use Rattle.typst_language.specs.Syntax.Op.{advises, column, complains, erred, flushes, further, hand, is_deepest, marks, so, takes, takes_so}
pub use Rattle.typst_language.specs.Syntax.Parser.{block, calls, does, either, gives, grows, nests, next, pick, repeat, scoped, wraps}
unfoldable pub use Rattle.typst_language.specs.Tokens.{backtick, hash, of_mode, slash, star, token}
pub use Rattle.typst_language.specs.declared.calls.Block.{Block}
pub use Rattle.typst_language.specs.declared.calls.Mark.{Mark}
pub use Rattle.typst_language.specs.declared.calls.Note.{Note}
pub use Rattle.typst_language.specs.declared.reading.Newlines.{Newlines}
pub use Rattle.typst_language.specs.declared.reading.Reading.{Reading}
pub use Rattle.typst_language.specs.declared.reading.State.{State}
pub use Rattle.typst_lines.proofs.LineTable.{width-positive}
pub use Rattle.typst_lines.specs.Classes.{CharClasses, by_law}
pub use Rattle.typst_lines.specs.Place.{Place, moved, moved_from}
unfoldable pub use Rattle.typst_lines.specs.Place.{char_width}
pub use Rattle.typst_tokens.specs.Characters.{is_code_point, is_space, is_u64}
unfoldable pub use Rattle.typst_tokens.specs.Characters.{number_after}
pub use Rattle.typst_tokens.specs.Common.{comment_step, in_comment}
unfoldable pub use Rattle.typst_tokens.specs.Common.{block_comment, comment_end, line_comment, line_ends, shebang, sign, whitespace}
unfoldable pub use Rattle.typst_tokens.specs.Escapes.{backslash, code_point}
unfoldable pub use Rattle.typst_tokens.specs.Labels.{label}
pub use Rattle.typst_tokens.specs.Link.{in_link, link_end}
unfoldable pub use Rattle.typst_tokens.specs.Link.{link, link_or_text}
unfoldable pub use Rattle.typst_tokens.specs.Names.{label_or_text, ref_marker, ref_or_text}
pub use Rattle.typst_tokens.specs.Raw.{in_raw, raw_end}
unfoldable pub use Rattle.typst_tokens.specs.Raw.{raw}
pub use Rattle.typst_tokens.specs.Reader.{Look, Reader, Turn, at_word, exec, from_before, look, no_look, place, skip_look, span_look, spanned}
unfoldable pub use Rattle.typst_tokens.specs.Sight.{far, near, position, stretch, width}
unfoldable pub use Rattle.typst_tokens.specs.Text.{text, text_from}
pub use Rattle.typst_tokens.specs.declared.token.Token.{Token}
pub use Rattle.typst_tree.proofs.Numbering.{joined_bare, numbered_bare}
pub use Rattle.typst_tree.proofs.ReplacesChildren.{replaces_children, text_bare}
pub use Rattle.typst_tree.proofs.SpansAside.{forest_trees, trees_forest}
pub use Rattle.typst_tree.specs.Diagnostic.{hint_with}
pub use Rattle.typst_tree.specs.Laws.{AtPath, or_none, put_at, start_at}
pub use Rattle.typst_tree.specs.Messages.{made_expected}
pub use Rattle.typst_tree.specs.Replace.{At, Reaches, kids_of, replaced_at}
pub use Rattle.typst_tree.specs.Tree.{Forest, Tree, advised, all_advised, at_tree, bare, bare_forest, error_of, forest, inner_of, leaf_of, made_error, more, nodes, none, synthesized, text_of, topped, trees, with_each, with_kind}
