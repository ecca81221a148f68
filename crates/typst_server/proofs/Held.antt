-- What is known of documents, from a list of them to the next.
use Rattle.typst_server.proofs.Cited.{◌≡◌, ℕ, ◌+◌, ◌<◌, ◌≤◌, List, [], ◌∷◌, ◌++◌, length, get_or, take, Bool, true, false, cond, not, Option, None, Some, option_map, option_and_then, inl, inr, refl, sym, ap, subst, ◌∙◌, arith, rules, Vec, length-set, set-get_or, take_all, take_more, take_more_set, slice_get-get_or, slice_get_past, nat_lt, bytes_eq, string_bytes, Encoding, Opened, IsUnknown, Keeps, KeepsOthers, Knows, found, is_known, is_named, known, AreSame, AreUnknown, IsWarned, LosesNone, IsKept, MayBeKept, MayDrop, last_of, Sent, Documents, Entry, with_item, nat_tests, is_same, Loss, Lost}
use mathlib.Core.HLevel.{is_prop→PathP}
use native.Mathlib.Nat.{ℕ_set}
use Rattle.std.proofs.Math.ListN.{set}
use Rattle.std.proofs.lemmas.List.Folds.{find-append, find-set, find_at, find_past}
use Rattle.std.proofs.lemmas.List.Quantifiers.{position-Some}
use Rattle.std.proofs.lemmas.Slice.Eq.{bytes_eq-Decides}
use Rattle.std.specs.List.{filter, find, position, position_or_len, slice_get}
use Rattle.std.specs.Option.{option_or}
use Rattle.typst_protocol.proofs.SameAddress.{same-as, same-with}
use Rattle.typst_server.specs.declared.tracked.Fresh.{Fresh}

-- ---- addresses

bytes-self : (x : List ℕ) → bytes_eq x x ≡ true
bytes-self x = (bytes_eq-Decides x x).1 refl

pub same-self : (uri : List ℕ) → is_same uri uri ≡ true
same-self uri = search (rules, bytes-self)

apart-turned : (uri other : List ℕ) (test : Bool) → is_same other uri ≡ test → is_same uri other ≡ false → test ≡ false
apart-turned uri other test is far = grind (arith, same-as, same-self)

-- an address that isn't that of a document is that of no entry with its address
apart : (uri other : List ℕ) (e : Entry) → is_named uri e ≡ true → is_same uri other ≡ false → is_named other e ≡ false
apart uri other e named far = same-with uri (string_bytes e.uri) other named ∙ apart-turned uri other (is_same other uri) refl far

-- by both addresses of a document the same is found
found-same : (uri other : List ℕ) (xs : List Entry) → is_same uri other ≡ true → find (is_named other) xs ≡ find (is_named uri) xs
found-same uri other xs h = grind (arith, cond, same-as)

-- ---- an entry that is set

placed-by : (p : Entry → Bool) (xs : List Entry) (i : ℕ) (test : Bool) → cond test (Some (position_or_len p xs)) None ≡ Some i → i ≡ position_or_len p xs
placed-by p xs i test h = grind arith

placed : (p : Entry → Bool) (xs : List Entry) (i : ℕ) → position p xs ≡ Some i → i ≡ position_or_len p xs
placed p xs i h = placed-by p xs i (nat_lt (position_or_len p xs) (length xs)) h

-- the entry of a document is replaced by another one, and no other entry
pub record Sets (uri : List ℕ) (xs ys : List Entry) (old new : Entry) : Type 0 where
  pub before : find (is_named uri) xs ≡ Some old
  pub behind : find (is_named uri) ys ≡ Some new
  pub others : (other : List ℕ) → is_same uri other ≡ false → find (is_named other) ys ≡ find (is_named other) xs

pub sets-named : (uri : List ℕ) (xs : List Entry) (i : ℕ) (d e : Entry) → position (is_named uri) xs ≡ Some i → is_named uri e ≡ true → Sets uri xs (set xs i e) (get_or xs i d) e
sets-named uri xs i d e h named =
    let at = position-Some (is_named uri) xs i d h in
    record {
      before = find_at (is_named uri) xs ∙ ap (slice_get xs) (sym (placed (is_named uri) xs i h)) ∙ slice_get-get_or xs i d at.0;
      behind = find-set (is_named uri) xs i e (placed (is_named uri) xs i h) at.0 named;
      others = λ other far. find_past (is_named other) xs i e d (apart uri other (get_or xs i d) at.1 far) (apart uri other e named far);
    }

-- an entry is set whose address stays
pub sets : (uri : List ℕ) (xs : List Entry) (i : ℕ) (d e : Entry) → position (is_named uri) xs ≡ Some i → e.uri ≡ (get_or xs i d).uri → Sets uri xs (set xs i e) (get_or xs i d) e
sets uri xs i d e h same = sets-named uri xs i d e h (ap (λ a. is_same uri (string_bytes a)) same ∙ (position-Some (is_named uri) xs i d h).1)

-- an entry that was read is replaced by another one with its address
pub sets-at : (uri : List ℕ) (xs : List Entry) (i : ℕ) (old new : Entry) → Some i ≡ position (is_named uri) xs → old ≡ get_or xs i old → new.uri ≡ old.uri → Sets uri xs (set xs i new) old new
sets-at uri xs i old new h is same = subst (λ o. Sets uri xs (set xs i new) o new) (sym is) (sets uri xs i old new (sym h) (same ∙ ap (λ (e : Entry). e.uri) is))

-- an entry in its own place leaves all as they are
pub set-itself : (entries : Vec Entry) (i : ℕ) (entry : Entry) → entry ≡ get_or entries.items i entry → with_item entries i entry ≡ entries
set-itself entries i entry is =
    let same : set entries.items i entry ≡ entries.items = ap (set entries.items i) is ∙ set-get_or entries.items i entry in
    λ j. record {
      ptr = entries.ptr;
      len = entries.len;
      cap = entries.cap;
      alloc = entries.alloc;
      items = same j;
      ok = (is_prop→PathP (λ k. entries.len ≡ length (same k)) (λ k. ℕ_set entries.len (length (same k))) (entries.ok.0 ∙ sym (length-set entries.items i entry)) entries.ok.0 j, entries.ok.1);
      small = entries.small;
    }

-- an entry is set whose address is the same, written otherwise
pub renames-at : (uri : List ℕ) (xs : List Entry) (i : ℕ) (old new : Entry) → Some i ≡ position (is_named uri) xs → old ≡ get_or xs i old → string_bytes new.uri ≡ uri → Sets uri xs (set xs i new) old new
renames-at uri xs i old new h is same =
    subst (λ o. Sets uri xs (set xs i new) o new) (sym is) (sets-named uri xs i old new (sym h) (ap (is_same uri) same ∙ same-self uri))

past : (a b : ℕ) → nat_lt a b ≡ false → b ≤ a
past a b h = grind (arith, nat_tests)

none-by : (p : Entry → Bool) (xs : List Entry) (test : Bool) → nat_lt (position_or_len p xs) (length xs) ≡ test → cond test (Some (position_or_len p xs)) None ≡ None → find p xs ≡ None
none-by p xs test is h = grind (arith, find_at, slice_get_past)

-- one that has no place isn't found
pub not-placed : (uri : List ℕ) (xs : List Entry) → None ≡ position (is_named uri) xs → find (is_named uri) xs ≡ None
not-placed uri xs h = none-by (is_named uri) xs (nat_lt (position_or_len (is_named uri) xs) (length xs)) refl (sym h)

-- ---- what is known afterwards

abbrev shown : Option Entry → Option (Option Opened)
shown e = option_map (λ entry. known entry.held) e

pub others-set : (uri : List ℕ) (xs ys : List Entry) (old new : Entry) → Sets uri xs ys old new → (other : List ℕ) → is_same uri other ≡ false → shown (find (is_named other) ys) ≡ shown (find (is_named other) xs)
others-set uri xs ys old new s other far = ap shown (s.others other far)

known-by : (uri other : List ℕ) (xs ys : List Entry) (old new : Entry) (test : Bool) → is_same uri other ≡ test → Sets uri xs ys old new → known new.held ≡ known old.held → shown (find (is_named other) ys) ≡ shown (find (is_named other) xs)
known-by uri other xs ys old new test is s same = grind (arith, found-same)

-- what is known stays where one is set of which the same is known
pub known-set : (uri : List ℕ) (xs ys : List Entry) (old new : Entry) → Sets uri xs ys old new → known new.held ≡ known old.held → (other : List ℕ) → shown (find (is_named other) ys) ≡ shown (find (is_named other) xs)
known-set uri xs ys old new s same other = known-by uri other xs ys old new (is_same uri other) refl s same

-- ---- what was sent

drop-by : (uri other : List ℕ) (xs ys : List Entry) (old new : Entry) (test : Bool) → is_same uri other ≡ test → Sets uri xs ys old new → MayDrop (last_of old.held) (last_of new.held)
    → MayDrop (option_and_then (λ entry. last_of entry.held) (find (is_named other) xs)) (option_and_then (λ entry. last_of entry.held) (find (is_named other) ys))
drop-by uri other xs ys old new test is s may = grind (arith, found-same)

-- of no document others are kept where one is set of which none others are
pub drop-set : (uri : List ℕ) (xs ys : List Entry) (old new : Entry) → Sets uri xs ys old new → MayDrop (last_of old.held) (last_of new.held) → (other : List ℕ)
    → MayDrop (option_and_then (λ entry. last_of entry.held) (find (is_named other) xs)) (option_and_then (λ entry. last_of entry.held) (find (is_named other) ys))
drop-set uri xs ys old new s may other = drop-by uri other xs ys old new (is_same uri other) refl s may

-- ---- entries that are taken out, put in, or all lost

left-by : (uri : List ℕ) (e : Entry) (kept : List Entry) (test : Bool) → is_named uri e ≡ test → find (is_named uri) kept ≡ None → find (is_named uri) (cond (not test) (e ∷ kept) kept) ≡ None
left-by uri e kept test is h = grind arith

-- one that is taken out isn't found
pub none-left : (uri : List ℕ) (xs : List Entry) → find (is_named uri) (filter (λ e. not (is_named uri e)) xs) ≡ None
none-left uri [] = refl
none-left uri (e ∷ es) = left-by uri e (filter (λ e. not (is_named uri e)) es) (is_named uri e) refl (none-left uri es)

others-by : (uri other : List ℕ) (e : Entry) (kept rest : List Entry) (test : Bool) → is_named uri e ≡ test → is_same uri other ≡ false → find (is_named other) kept ≡ find (is_named other) rest
    → find (is_named other) (cond (not test) (e ∷ kept) kept) ≡ find (is_named other) (e ∷ rest)
others-by uri other e kept rest true is far h = h ∙ sym (ap (λ b. cond b (Some e) (find (is_named other) rest)) (apart uri other e is far))
others-by uri other e kept rest false is far h = ap (λ r. cond (is_named other e) (Some e) r) h

pub others-left : (uri other : List ℕ) (xs : List Entry) → is_same uri other ≡ false → find (is_named other) (filter (λ e. not (is_named uri e)) xs) ≡ find (is_named other) xs
others-left uri other [] far = refl
others-left uri other (e ∷ es) far = others-by uri other e (filter (λ e. not (is_named uri e)) es) es (is_named uri e) refl far (others-left uri other es far)

drop-left-by : (uri other : List ℕ) (xs : List Entry) (test : Bool) → is_same uri other ≡ test
    → MayDrop (option_and_then (λ entry. last_of entry.held) (find (is_named other) xs)) (option_and_then (λ entry. last_of entry.held) (find (is_named other) (filter (λ e. not (is_named uri e)) xs)))
drop-left-by uri other xs true is = inr (ap (option_and_then (λ (entry : Entry). last_of entry.held)) (found-same uri other (filter (λ e. not (is_named uri e)) xs) is ∙ none-left uri xs))
drop-left-by uri other xs false is = inl (ap (option_and_then (λ (entry : Entry). last_of entry.held)) (others-left uri other xs is))

pub drop-left : (uri other : List ℕ) (xs : List Entry)
    → MayDrop (option_and_then (λ entry. last_of entry.held) (find (is_named other) xs)) (option_and_then (λ entry. last_of entry.held) (find (is_named other) (filter (λ e. not (is_named uri e)) xs)))
drop-left uri other xs = drop-left-by uri other xs (is_same uri other) refl

-- one that is put in, and isn't known, is found where none was
unknown-in-by : (e : Entry) (before : Option Entry) (test : Bool) → e.held ≡ Lost → IsUnknown (shown before) → IsUnknown (shown (option_or before (cond test (Some e) None)))
unknown-in-by e before test lost h = grind arith

pub unknown-in : (uri : List ℕ) (xs : List Entry) (e : Entry) → e.held ≡ Lost → IsUnknown (shown (find (is_named uri) xs)) → IsUnknown (shown (find (is_named uri) (xs ++ e ∷ [])))
unknown-in uri xs e lost h = subst (λ f. IsUnknown (shown f)) (sym (find-append (is_named uri) xs (e ∷ []))) (unknown-in-by e (find (is_named uri) xs) (is_named uri e) lost h)

or-none : (a : Option Entry) → option_or a None ≡ a
or-none a = grind arith

pub others-in : (uri other : List ℕ) (xs : List Entry) (e : Entry) → is_named uri e ≡ true → is_same uri other ≡ false → find (is_named other) (xs ++ e ∷ []) ≡ find (is_named other) xs
others-in uri other xs e named far =
    find-append (is_named other) xs (e ∷ [])
    ∙ ap (λ b. option_or (find (is_named other) xs) (cond b (Some e) None)) (apart uri other e named far)
    ∙ or-none (find (is_named other) xs)

sent-in-by : (e : Entry) (before : Option Entry) (test : Bool) → e.held ≡ Lost
    → option_and_then (λ entry. last_of entry.held) (option_or before (cond test (Some e) None)) ≡ option_and_then (λ entry. last_of entry.held) before
sent-in-by e before test lost = grind arith

pub sent-in : (other : List ℕ) (xs : List Entry) (e : Entry) → e.held ≡ Lost
    → option_and_then (λ entry. last_of entry.held) (find (is_named other) (xs ++ e ∷ [])) ≡ option_and_then (λ entry. last_of entry.held) (find (is_named other) xs)
sent-in other xs e lost = ap (option_and_then (λ (entry : Entry). last_of entry.held)) (find-append (is_named other) xs (e ∷ [])) ∙ sent-in-by e (find (is_named other) xs) (is_named other e) lost

-- where each is lost nothing is known
abbrev pub AreLost : List Entry → Type 0
AreLost [] = Unit {0}
AreLost (e ∷ es) = (e.held ≡ Lost) × AreLost es

lost-push : (xs : List Entry) (e : Entry) → AreLost xs → e.held ≡ Lost → AreLost (xs ++ e ∷ [])
lost-push [] e h lost = (lost, tt)
lost-push (x ∷ xs) e h lost = (h.0, lost-push xs e h.1 lost)

-- one more is lost
pub lost-more : (xs : List Entry) (i : ℕ) (e : Entry) → i < length xs → AreLost (take i xs) → e.held ≡ Lost → AreLost (take (i + 1) (set xs i e))
lost-more xs i e within h lost = subst AreLost (sym (take_more_set xs i e within)) (lost-push (take i xs) e h lost)

lost-by : (e : Entry) (rest : Option Entry) (test : Bool) → e.held ≡ Lost → IsUnknown (shown rest) → IsUnknown (shown (cond test (Some e) rest))
lost-by e rest test lost h = grind arith

pub all-lost : (uri : List ℕ) (xs : List Entry) → AreLost xs → IsUnknown (shown (find (is_named uri) xs))
all-lost uri [] h = tt
all-lost uri (e ∷ es) h = lost-by e (find (is_named uri) es) (is_named uri e) h.0 (all-lost uri es h.1)

lost-sent-by : (e : Entry) (rest : Option Entry) (test : Bool) → e.held ≡ Lost → option_and_then (λ entry. last_of entry.held) rest ≡ None → option_and_then (λ entry. last_of entry.held) (cond test (Some e) rest) ≡ None
lost-sent-by e rest test lost h = grind arith

pub all-lost-sent : (uri : List ℕ) (xs : List Entry) → AreLost xs → option_and_then (λ entry. last_of entry.held) (find (is_named uri) xs) ≡ None
all-lost-sent uri [] h = refl
all-lost-sent uri (e ∷ es) h = lost-sent-by e (find (is_named uri) es) (is_named uri e) h.0 (all-lost-sent uri es h.1)

-- what isn't known is unknown
pub unknown : (k : Option (Option Opened)) → is_known k ≡ false → IsUnknown k
unknown k h = grind arith

-- ---- what isn't lost

loses-by : (uri other : List ℕ) (old new : Documents) (test : Bool) → is_same uri other ≡ test → KeepsOthers uri old new → (found uri new ≡ Some None → IsUnknown (found uri old)) → found other new ≡ Some None → IsUnknown (found other old)
loses-by uri other old new test is others here lost = grind (arith, found-same)

-- where the others stay none is lost if that one isn't
pub loses_none : (uri : List ℕ) (old new : Documents) → KeepsOthers uri old new → (found uri new ≡ Some None → IsUnknown (found uri old)) → LosesNone old new
loses_none uri old new others here = λ other lost. loses-by uri other old new (is_same uri other) refl others here lost

-- one step after the other
pub drop-both : (a b c : Option Sent) → MayDrop a b → MayDrop b c → MayDrop a c
drop-both a b c h g = grind arith

-- ---- losses that are reported

pub warned_none : (lost : Option Loss) (old new : Documents) → lost ≡ None → LosesNone old new → IsWarned lost old new
warned_none lost old new is h = subst (λ l. IsWarned l old new) (sym is) h

-- all are lost
pub warned_all : (lost : Option Loss) (old new : Documents) → (lost ≡ None → AreUnknown old) → IsWarned lost old new
warned_all lost old new h = grind arith

-- nothing changes
pub warned_same : (old new : Documents) → AreSame old new → LosesNone old new
warned_same old new same = λ uri gone. subst IsUnknown (sym gone ∙ same uri) tt

still_known : (k : Option (Option Opened)) → is_known k ≡ true → k ≡ Some None → ⊥
still_known k h gone = grind arith

pub none_lost : (documents : Documents) → LosesNone documents documents
none_lost documents = λ uri gone. subst IsUnknown (sym gone) tt

-- a document may be lost
pub warned_by : (lost : Option Loss) (uri : List ℕ) (old new : Documents) (was : Bool) → was ≡ is_known (found uri old) → KeepsOthers uri old new → (lost ≡ None → was ≡ true → is_known (found uri new) ≡ true) → IsWarned lost old new
warned_by lost uri old new was is others h = grind (arith, loses_none, still_known, unknown)

-- a document is known now, or lost
pub warned_open : (lost : Option Loss) (uri : List ℕ) (old new : Documents) → KeepsOthers uri old new → (lost ≡ None → true ≡ true → is_known (found uri new) ≡ true) → IsWarned lost old new
warned_open lost uri old new others h = grind (arith, loses_none, still_known)

-- ---- steps of the open documents

pub lost-set : (uri : List ℕ) (xs ys : List Entry) (old new : Entry) → Sets uri xs ys old new → new.held ≡ Lost → IsUnknown (shown (find (is_named uri) ys))
lost-set uri xs ys old new s lost = subst (λ e. IsUnknown (shown e)) (sym s.behind) (subst (λ k. IsUnknown (Some (known k))) (sym lost) tt)

pub lost-may : (old new : Entry) → new.held ≡ Lost → MayDrop (last_of old.held) (last_of new.held)
lost-may old new lost = inr (ap last_of lost)

pub unknown-none : (e : Option Entry) → e ≡ None → IsUnknown (shown e)
unknown-none e h = subst (λ f. IsUnknown (shown f)) (sym h) tt

pub lost-whole : (xs : List Entry) (i : ℕ) → length xs ≤ i → AreLost (take i xs) → AreLost xs
lost-whole xs i past h = subst AreLost (take_all i xs past) h

pub keeps-set : (encoding : Encoding) (step : Option (List ℕ) → Option (List ℕ)) (uri : List ℕ) (xs ys : List Entry) (old new : Entry) → Sets uri xs ys old new
    → Keeps encoding step (Some (known old.held)) (Some (known new.held)) → Keeps encoding step (shown (find (is_named uri) xs)) (shown (find (is_named uri) ys))
keeps-set encoding step uri xs ys old new s h = grind arith

pub knows-none : (encoding : Encoding) (text : Option (List ℕ)) (e : Option Entry) → e ≡ None → Knows encoding (shown e) text
knows-none encoding text e h = subst (λ f. Knows encoding (shown f) text) (sym h) tt

pub kept-set : (uri : List ℕ) (xs ys : List Entry) (old new : Entry) → Sets uri xs ys old new → (name : List ℕ) → IsKept (Some (known old.held)) name (last_of new.held)
    → IsKept (shown (find (is_named uri) xs)) name (option_and_then (λ entry. last_of entry.held) (find (is_named uri) ys))
kept-set uri xs ys old new s name h = grind arith

pub kept-none : (name : List ℕ) (e : Option Entry) → e ≡ None → IsKept (shown e) name (option_and_then (λ entry. last_of entry.held) e)
kept-none name e h = subst (λ f. IsKept (shown f) name (option_and_then (λ entry. last_of entry.held) f)) (sym h) tt

-- what may be kept of a document may be kept of its entry
pub may-be : (uri : List ℕ) (xs ys : List Entry) (old new : Entry) → Sets uri xs ys old new → (fresh : Fresh) → MayBeKept (shown (find (is_named uri) xs)) fresh → MayBeKept (Some (known old.held)) fresh
may-be uri xs ys old new s fresh h = subst (λ e. MayBeKept (shown e) fresh) s.before h

pub others-sent : (uri : List ℕ) (xs ys : List Entry) (old new : Entry) → Sets uri xs ys old new → (other : List ℕ) → is_same uri other ≡ false
    → option_and_then (λ entry. last_of entry.held) (find (is_named other) ys) ≡ option_and_then (λ entry. last_of entry.held) (find (is_named other) xs)
others-sent uri xs ys old new s other far = ap (option_and_then (λ (entry : Entry). last_of entry.held)) (s.others other far)

sent-kept-by : (uri other : List ℕ) (xs ys : List Entry) (old new : Entry) (test : Bool) → is_same uri other ≡ test → Sets uri xs ys old new → last_of new.held ≡ last_of old.held
    → option_and_then (λ entry. last_of entry.held) (find (is_named other) ys) ≡ option_and_then (λ entry. last_of entry.held) (find (is_named other) xs)
sent-kept-by uri other xs ys old new test is s same = grind (arith, found-same, others-sent)

pub sent-kept : (uri : List ℕ) (xs ys : List Entry) (old new : Entry) → Sets uri xs ys old new → last_of new.held ≡ last_of old.held → (other : List ℕ)
    → option_and_then (λ entry. last_of entry.held) (find (is_named other) ys) ≡ option_and_then (λ entry. last_of entry.held) (find (is_named other) xs)
sent-kept uri xs ys old new s same other = sent-kept-by uri other xs ys old new (is_same uri other) refl s same

pub knows-unknown : (encoding : Encoding) (k : Option (Option Opened)) (text : Option (List ℕ)) → IsUnknown k → Knows encoding k text
knows-unknown encoding k text h = grind arith

-- none of some entries is known
abbrev pub AreUnknownAll : List Entry → Type 0
AreUnknownAll [] = Unit {0}
AreUnknownAll (e ∷ es) = (is_known (Some (known e.held)) ≡ false) × AreUnknownAll es

unknown-push : (xs : List Entry) (e : Entry) → AreUnknownAll xs → is_known (Some (known e.held)) ≡ false → AreUnknownAll (xs ++ e ∷ [])
unknown-push [] e h none = (none, tt)
unknown-push (x ∷ xs) e h none = (h.0, unknown-push xs e h.1 none)

-- one more isn't known
pub unknown-more : (xs : List Entry) (i : ℕ) (e : Entry) → i < length xs → e ≡ get_or xs i e → AreUnknownAll (take i xs) → is_known (Some (known e.held)) ≡ false → AreUnknownAll (take (i + 1) xs)
unknown-more xs i e within is h none = subst AreUnknownAll (sym (take_more xs i e within ∙ ap (λ x. take i xs ++ x ∷ []) (sym is))) (unknown-push (take i xs) e h none)

unknown-by : (e : Entry) (rest : Option Entry) (test : Bool) → is_known (Some (known e.held)) ≡ false → IsUnknown (shown rest) → IsUnknown (shown (cond test (Some e) rest))
unknown-by e rest test h g = grind arith

all-unknown-in : (uri : List ℕ) (xs : List Entry) → AreUnknownAll xs → IsUnknown (shown (find (is_named uri) xs))
all-unknown-in uri [] h = tt
all-unknown-in uri (e ∷ es) h = unknown-by e (find (is_named uri) es) (is_named uri e) h.0 (all-unknown-in uri es h.1)

pub all-unknown : (uri : List ℕ) (xs : List Entry) (i : ℕ) → length xs ≤ i → AreUnknownAll (take i xs) → IsUnknown (shown (find (is_named uri) xs))
all-unknown uri xs i past h = all-unknown-in uri xs (subst AreUnknownAll (take_all i xs past) h)

pub lost-in : (uri : List ℕ) (xs es : List Entry) → xs ≡ es → AreLost es → IsUnknown (shown (find (is_named uri) xs))
lost-in uri xs es same h = subst (λ ys. IsUnknown (shown (find (is_named uri) ys))) (sym same) (all-lost uri es h)

pub lost-sent-in : (uri : List ℕ) (xs es : List Entry) → xs ≡ es → AreLost es → option_and_then (λ entry. last_of entry.held) (find (is_named uri) xs) ≡ None
lost-sent-in uri xs es same h = ap (λ ys. option_and_then (λ (entry : Entry). last_of entry.held) (find (is_named uri) ys)) same ∙ all-lost-sent uri es h

pub unknown-in-all : (uri : List ℕ) (xs es : List Entry) (i : ℕ) → es ≡ xs → length es ≤ i → AreUnknownAll (take i es) → IsUnknown (shown (find (is_named uri) xs))
unknown-in-all uri xs es i same past h = subst (λ ys. IsUnknown (shown (find (is_named uri) ys))) same (all-unknown uri es i past h)
