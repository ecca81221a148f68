-- The names that many of these proofs cite, passed on from one place. Declares nothing.
pub use Rattle.std.proofs.Common.{Bool, List, None, Option, Result, Some, [], add-one, ap, append_assoc, arith, bit_and, bit_or, drop, drop-cons, drop-drop, drop_of_length-le, eq-eqb, false, get_or, if◌then◌else◌, length, length-append, length-drop, length-take-le, map, max, min, nat_le, nat_lt, refl, rules, subst, suc, sym, take, true, zero, ℕ, ◌%◌, ◌&&◌, ◌*◌, ◌++◌, ◌+◌, ◌-◌, ◌/◌, ◌<◌, ◌==◌, ◌^◌, ◌↔◌, ◌∙◌, ◌∷◌, ◌≡◌, ◌≤◌}
pub use Rattle.std.proofs.Math.Seq.{drop-append_seam, take-add, take-append-add, take-append_seam, take-suc}
pub use Rattle.std.proofs.lemmas.Bool.{and_parts, cases_lt, leb-true}
pub use Rattle.std.proofs.lemmas.Bool.Decides.{nat_tests}
pub use Rattle.std.proofs.lemmas.Grind.{common_steps}
pub use Rattle.std.proofs.lemmas.List.{append-nil, drop_at, get_or-map, length-map, length-take, map-append, take-append-drop, take-append-le, take-map, take-take, take_all, take_at, take_rest}
pub use Rattle.std.proofs.lemmas.Nat.{and_mask, mod_below, mod_low, one_shl, or_shifted, pow_pos, shl_whole, shr_high, shr_split}
pub use Rattle.std.proofs.lemmas.Option.{IfSome_then, get_or_from_slice_get, slice_get-get_or, slice_get_past, slice_get_read, slice_get_within}
pub use Rattle.std.specs.List.{slice_get}
pub use Rattle.std.specs.List.Sorted.{IsNonDecreasing}
pub use Rattle.std.specs.Prelude.{not, ◌||◌}
pub use Rattle.std.specs.Result.{MatchResult, is_ok}
pub use Rattle.typst_candidates.specs.Anchors.{AllLooksEnd, IsAnchor, inside_of}
pub use Rattle.typst_candidates.specs.Candidates.{Candidate, Child, ChildRange, around, back_past, begins, begun, child_at, child_ranges, clings, covers, end_near, ended, first_near, from_of, holds_at, is_all, is_among, is_hash, laid, leads, of_block, of_child_ranges, of_children, of_run, on_past, run_in, to_of, with_hash}
unfoldable pub use Rattle.typst_candidates.specs.Candidates.{candidates_at}
pub use Rattle.typst_candidates.specs.Cursors.{AreNear, EntryPlace, GoBack, PassesBlock, after, back_after, before, closing_of, entry_after, entry_before, first_piece, inside_after, is_piece, last_of, last_piece, opens_content, piece_of, pieces_in, pieces_of, start_at, token_at}
pub use Rattle.typst_candidates.specs.Edges.{IsEdge, IsNear, IsRun, IsWhole, LeadsBy, below, bytes_of, indices, is_covered, pieces_at, spelled, within}
pub use Rattle.typst_candidates.specs.Entries.{back_of, end_of, entries_by, entry_kind_of, entry_of, front_of, is_after, last_start, rear_of}
pub use Rattle.typst_candidates.specs.Nested.{Written}
pub use Rattle.typst_candidates.specs.Packed.{Held, all_beside, all_spans, beside, entry_by, entry_in, entry_kinds, filled, holds_piece, lengths, span, spans, unpacked, wides, widths}
pub use Rattle.typst_candidates.specs.Records.{AllBegin, AllEnd, AllFit, FrontLaw, IsRising, Kept, RearLaw, is_opening, opening_of}
pub use Rattle.typst_candidates.specs.Stops.{covering, found_in, found_in_all, inside, kids, run_of}
pub use Rattle.typst_candidates.specs.Units.{after_first, cuts_in, starts, top_cuts, up_to_end}
pub use Rattle.typst_candidates.specs.declared.anchor.Anchor.{Anchor}
pub use Rattle.typst_candidates.specs.declared.children.Near.{Near}
pub use Rattle.typst_candidates.specs.declared.cuts.Window.{Window}
pub use Rattle.typst_candidates.specs.declared.entry.Entry.{Entry}
pub use Rattle.typst_candidates.specs.declared.entry.EntryKind.{EntryKind}
pub use Rattle.typst_candidates.specs.declared.packed.Packed.{Packed}
pub use Rattle.typst_kinds.specs.Kinds.{is_block, same}
pub use Rattle.typst_kinds.specs.declared.kind.SyntaxKind.{SyntaxKind}
pub use Rattle.typst_language.specs.declared.calls.Note.{Note}
pub use Rattle.typst_tree.specs.Tree.{Forest, Tree, count, forest, joined, more, nodes, none, saturated, text_of, trees}
