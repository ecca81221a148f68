-- The names that many of these proofs cite, passed on from one place. Declares nothing.
pub use Rattle.std.proofs.Common.{Bool, Err, Global, IfNone, IfOk, IfSome, List, MatchResult, None, Ok, Option, Result, Some, String, [], ap, append-nil, append_assoc, arith, codes, cond, drop, drop-drop, drop_at, false, get_or, if◌then◌else◌, inl, inr, is_some, length, length-append, length-drop, length-take, length-take-le, map, min, not, one-add, option_and_then, option_map, refl, rules, subst, suc, sym, take, take-append-drop, take-take, take_at, true, zero, ℕ, ◌*◌, ◌++◌, ◌+◌, ◌-◌, ◌<◌, ◌==◌, ◌^◌, ◌||◌, ◌∙◌, ◌∷◌, ◌≡◌, ◌≤◌, ◌⊎◌}
pub use Rattle.std.proofs.lemmas.Bool.{cases_lt, eq-eqb, le-leb, lt-leb, ne_eqb}
pub use Rattle.std.proofs.lemmas.Bool.Decides.{nat_tests}
pub use Rattle.std.proofs.lemmas.Fn.{filter_same}
pub use Rattle.std.proofs.lemmas.Grind.{common_steps, flat_map-append}
pub use Rattle.std.proofs.lemmas.List.{drop_all, drop_more, length-set, map-append, map_more, set-get_or, take_all, take_more, take_more_set, with_items_is}
pub use Rattle.std.proofs.lemmas.List.Elements.{All-nil, All-push, All-weaker}
pub use Rattle.std.proofs.lemmas.Option.{get_or_from_slice_get, slice_get-get_or, slice_get_past}
pub use Rattle.std.specs.Global.{Vec}
pub use Rattle.std.specs.Io.KnownBytes.{Appends}
pub use Rattle.std.specs.List.{AllByRecursion, flat_map, prefix_len}
pub use Rattle.std.specs.Prelude.{All, nat_lt, slice_get, slice_index, ℤ, ⊤}
pub use Rattle.std.specs.Result.{is_ok, result_ok}
pub use Rattle.std.specs.Str.{IsUtf8, bytes_eq, chars}
pub use Rattle.std.specs.String.{string_bytes}
pub use Rattle.std.specs.Vec.{with_item}
pub use Rattle.std.specs.declared.ops.Range.{Range}
pub use Rattle.serde_json.specs.Data.{Data}
pub use Rattle.serde_json.specs.View.{items_view, view}
pub use Rattle.typst_document.specs.Document.{IsReadAgain, Opened, all_bytes}
pub use Rattle.typst_document.specs.Tree.{Tree}
pub use Rattle.typst_features.specs.Labels.{Mentioned, mentioned}
pub use Rattle.typst_features.specs.Occurrence.{Occurrence}
pub use Rattle.typst_features.specs.Problems.{Reported, reported}
pub use Rattle.typst_features.specs.Renames.{is_bound}
pub use Rattle.typst_positions.proofs.Places.{held, position-is, some-below, start-boundary, utf8-line}
pub use Rattle.typst_positions.specs.Columns.{measured, width}
unfoldable pub use Rattle.typst_positions.specs.Columns.{column_of}
pub use Rattle.typst_positions.specs.Positions.{byte_at, line_of, position_of}
pub use Rattle.typst_positions.specs.Starts.{is_line_end, starts_line}
unfoldable pub use Rattle.typst_positions.specs.Starts.{line_at, line_starts, starts_between}
pub use Rattle.typst_positions.specs.declared.columns.Encoding.{Encoding}
pub use Rattle.typst_positions.specs.declared.positions.Position.{Position}
pub use Rattle.typst_protocol.proofs.Writing.{begins-after, begins-front, begins-whole}
pub use Rattle.typst_protocol.specs.Addresses.{is_same}
pub use Rattle.typst_protocol.specs.Bodies.{IsJsonOf, failure, nameless, success, text_of, warning}
pub use Rattle.typst_protocol.specs.Frames.{written}
pub use Rattle.typst_protocol.specs.Messages.{IsMessage, IsUnread, IsUnreadBody, babbles, meant, said}
pub use Rattle.typst_protocol.specs.Methods.{methods, named}
pub use Rattle.typst_protocol.specs.Parameters.{includes_label, seen, stretch_in}
pub use Rattle.typst_protocol.specs.Stream.{Answers, AnswersAfter, Begins, Passes, Reads, Stream}
pub use Rattle.typst_protocol.specs.Written.{WritesReport, WritesTokens}
pub use Rattle.typst_protocol.specs.declared.method.Method.{Method}
pub use Rattle.typst_protocol.specs.declared.method.Method.TheVariants.{Definition, Diagnostics, Highlights, Initialize, References, Shutdown, TokensDelta, TokensFull, TokensRange, WorkspaceSymbols}
pub use Rattle.typst_protocol.specs.declared.refusal.Loss.{Loss}
pub use Rattle.typst_protocol.specs.declared.refusal.Refusal.{Refusal}
pub use Rattle.typst_protocol.specs.declared.refusal.Refusal.TheVariants.{BadParameters, OutOfMemory}
pub use Rattle.typst_protocol.specs.declared.refusal.Unread.{Unread}
pub use Rattle.typst_protocol.specs.declared.values.Tokens.{Tokens}
pub use Rattle.typst_server.specs.Answers.{IsAnswer, IsReplyTo, TakesEvent}
pub use Rattle.typst_server.specs.Documents.{IsMissing, IsUnknown, Keeps, KeepsOthers, Knows, after, found, is_known, is_named, known}
pub use Rattle.typst_server.specs.Left.{AreSame, AreUnknown, IsKnownAfter, IsLeft, IsLeftBy, IsWarned, Loses, LosesNone, loss_of}
pub use Rattle.typst_server.specs.Located.{AreAt, IsHighlightOf, IsLocationOf}
pub use Rattle.typst_server.specs.Made.{AnswersWith, IsLed, IsOfTokens, IsTaken, SendsAsked, SendsOf, standing_after}
pub use Rattle.typst_server.specs.Numbers.{IsAdded, Shown, all_shown, clipped, decoded, encoded, five, modifiers_of, number_of, numbers_of, shown, shown_each}
pub use Rattle.typst_server.specs.Occurrences.{AtPosition, defined, occurred, occurrences, or_bound, stretches, used}
pub use Rattle.typst_server.specs.Phases.{Responds, allowed, leads}
pub use Rattle.typst_server.specs.Published.{AreNone, ArePublished, Empties, EmptiesAll, IsNews, IsNewsReply, IsNotice, IsPublished, IsToldOf, Publishes, Reports, full_message, hint_line, problems_of}
pub use Rattle.typst_server.specs.Results.{Answer, Gives, Grows, IsAbout, IsOf, Looks, OfDocuments, Tells, said_of}
pub use Rattle.typst_server.specs.Sent.{InStretch, IsKept, KeepsSent, MayBeKept, MayDrop, TellsTokens, TellsWithin, last_of, sent_of}
pub use Rattle.typst_server.specs.Sessions.{IsHandled, IsNew, LosesAll, LosesMeant}
pub use Rattle.typst_server.specs.Tokens.{AsksTokens, DropsSent, IsSentAfter, IsSentBy, KeepsTokens, SameSent, previous}
pub use Rattle.typst_server.specs.Tracked.{AreTokens, Followed, IsCarriedBy, IsCarriedOver, IsKeptBy, IsLast, IsLastAfter, IsPresent, IsShortened, IsSince, IsTracked, MayStay, SameEnds, Sent, StaysKept, TellsSince, WasBefore, ends_by, ends_if, if_named, is_edited, named_last, sent_by, shortened}
pub use Rattle.typst_server.specs.Transcript.{AnswersFrame, AreAnswered, Ends, EndsBy, GoesOn, IsAnswered, IsFirst, IsNoExit, IsReason, IsStatus, Sends, Serves, Turns, WentOut, frames_of, sent, told, transcript, warnings}
pub use Rattle.typst_server.specs.declared.diagnostics.ShownErrors.{ShownErrors}
pub use Rattle.typst_server.specs.declared.documents.Documents.{Documents}
pub use Rattle.typst_server.specs.declared.documents.Entry.{Entry}
pub use Rattle.typst_server.specs.declared.documents.Held.TheVariants.{Lost}
pub use Rattle.typst_server.specs.declared.reply.News.{News}
pub use Rattle.typst_server.specs.declared.reply.Reply.{Reply}
pub use Rattle.typst_server.specs.declared.server.Made.{Made}
pub use Rattle.typst_server.specs.declared.server.Phase.TheVariants.{Running}
pub use Rattle.typst_server.specs.declared.server.Server.{Server}
pub use Rattle.typst_server.specs.declared.server.Standing.{Standing}
pub use Rattle.typst_server.specs.declared.tracked.Carried.{Carried}
pub use Rattle.typst_server.specs.declared.tracked.Kept.{Kept}
pub use Rattle.typst_styles.proofs.EachToken.{AllBefore, AllFrom, Between}
pub use Rattle.typst_styles.proofs.RenewedTokens.{tokens_ordered, window_shift}
pub use Rattle.typst_styles.specs.Renewed.{AreOutside, AreRenewed, IsOutside}
pub use Rattle.typst_styles.specs.Tokens.{end_of, tokens_in}
pub use Rattle.typst_styles.specs.Windows.{IsEdit, IsOfBoth, IsWindow, Stays, moved, range_of}
pub use Rattle.typst_styles.specs.declared.tokens.Token.{Token}
