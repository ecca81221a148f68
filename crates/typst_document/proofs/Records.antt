-- Records that stay through a replacement.
use Rattle.typst_document.proofs.Cited.{◌≡◌, List, ℕ, Bool, true, refl, Result, OnOk, arith, is_ok, bytes_eq, UnicodeClasses, Held}

by-test : (old new : Held UnicodeClasses) (text : List ℕ) (test : Bool) → bytes_eq old.text text ≡ test → old.has_records ≡ true → (old.text ≡ text → new ≡ old)
    → ((old.text ≡ text → ⊥) → new.has_records ≡ true) → new.has_records ≡ true
by-test old new text test is before same other = grind arith

-- another text brings records, and by the same one nothing changes
pub records-kept : (old new : Held UnicodeClasses) (text : List ℕ) → old.has_records ≡ true → (old.text ≡ text → new ≡ old) → ((old.text ≡ text → ⊥) → new.has_records ≡ true) → new.has_records ≡ true
records-kept old new text before same other = by-test old new text (bytes_eq old.text text) refl before same other

-- what is ensured where there is no error
pub of-ok : {T E : Type 0} (result : Result T E) (P : Type 0) → true ≡ is_ok result → OnOk result P → P
of-ok result P is h = grind arith
