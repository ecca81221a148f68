-- From what a contract promises to the lemma behind it:
--   Server::answer                              Answered: answered, known_after, sent_after; unread_body, unread_value and such: what is no message
--   Server::answer_value                        Answered: meant_left, unnamed_left; Taking: loses_named, loses_nothing, empties_none
--   Server: what is warned of                   Held: warned_all, warned_by, warned_open, warned_none, warned_same, none_lost
--   Server: the tokens kept                     Keeping: drops_none, same_sent; keeps_made, keeps_refused: with a response
--   begin, ask, ask_document                    Keeping: moves, stays, of_moves, of_nothing, of_sent, sent_stays; Responses: goes_on, gives_about, about_known, looked
--   look_at, symbols (workspace)                Responses: looked_rest; of_named, of_unnamed
--   make_response, answer_request               Responses: responds_made; responds-refused; responds-memory, tells-memory
--   take_event                                  Taking: takes_closed, by Publishing: takes_news
--   lose, closed                                Publishing: empties; told_news
--   lost, emptied                               Taking: all_pushed
--   publish, publish_none, report, items_of     Publishing: notices; reports; published-more
--   Documents: give, keep, rename, lose         Held: sets-at, renames-at: an entry that is set; others-set, drop-set, known-set: what that leaves; not-placed
--   Documents: enter, close                     Held: unknown-in, others-in, sent-in; none-left, others-left, drop-left
--   Documents: lose_all, knows_any              Held: lost-more, lost-in, lost-sent-in; unknown-more, unknown-in-all
--   Documents: open, make_all                   Held: knows-unknown; drop-both; Texts: Made: change by change
--   Tracked: tokens, since, keep                KeptTokens: told_since
--   Tracked: renew, changed                     KeptTokens: carried_stand; stays_stand, dropped_stand
--   Kept::after                                 KeptTokens: through_first, through_later
--   carried_over                                KeptTokens: all_carried
--   after_edits                                 KeptTokens: edits_carried, by NumbersRenewed: numbers_renewed, by what these say:
--     places in two texts                       SamePlaces: same_place, follows, first_line
--     the tokens outside, as they are shown     SplicedTokens: front-shown, back-shown; SplicedNumbers: encoded-down
--     two lists of numbers with the same ends   SplicedSent: numbers_stay; SameEnds: ends_of, ends_less, ends_both, ends_made
--   renewed, all_tokens (tracked)               KeptTokens: renewed_present
--   Encoder: add, with; numbers_of: read back   Encoding: token-added; Decoding: tokens-back
--   encode_part                                 Sending: first_numbers, later_numbers
--   to_send, update_since, changes_since, tell  Sending: told_tokens; made_since
--   Told::text, value_of, range (tokens)        Sending: within_written
--   occurrences, occurrences_at                 Occurring: labels_stand
--   definition, references, highlights          Locating: told_at; located_more, located_all: range by range
--   answer_next, answer_all, serve              Transcripts: read-on, turns; SoFar, more-known, ends-known, gives-up-known; serves-known
--   write_reply, write_news, write_warning      Transcripts: nameless-front, nameless-after, nameless-whole; news-front, news-after; warned-bytes
--   write_all                                   Transcripts: more-written, all-written, begins-at
mod Answered
pub mod Cited
mod Decoding
mod Encoding
mod Held
mod Keeping
mod KeptTokens
mod Locating
mod NumbersRenewed
mod Occurring
mod Publishing
mod Responses
mod SameEnds
mod SamePlaces
mod Sending
mod SplicedNumbers
mod SplicedSent
mod SplicedTokens
mod Taking
mod Texts
mod Transcripts
