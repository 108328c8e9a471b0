-- Whether some bytes begin with a line, from what is left of them.
use Rattle.std.proofs.Common.{◌≡◌, ◌≢◌, true, false, List, ◌++◌, ℕ, length, drop, Some, None, Option, MatchOption, ap, sym, ◌∙◌, ⊎_elim}
use Rattle.std.specs.Borrow.{Bor}
use Rattle.std.proofs.lemmas.Bool.{cases_Bool, and_from, and_left, and_right}
use Rattle.std.proofs.lemmas.List.{take-append-drop}
use Rattle.model.specs.Events.{Ev, allowed}
use Rattle.lines.specs.Line.{line_of, starts_with, is_line_of}
use Rattle.lines.specs.Pens.{TakenOff}
use Rattle.lines.specs.Lawful.{starts_append, starts_take}

pub begins : (e : Ev) (bs left : List ℕ) → allowed e ≡ true → bs ≡ line_of e ++ left → is_line_of e bs ≡ true
begins e bs left a h = and_from (allowed e) _ a (ap (starts_with (line_of e)) h ∙ starts_append (line_of e) left)

pub not_allowed : (e : Ev) (bs : List ℕ) → allowed e ≡ false → is_line_of e bs ≡ false
not_allowed e bs a = and_left (allowed e) _ a

another : (line bs : List ℕ) → ((more : List ℕ) → bs ≢ line ++ more) → starts_with line bs ≡ false
another line bs none =
    ⊎_elim (λ h. absurd (none (drop (length line) bs) (sym (take-append-drop (length line) bs) ∙ ap (λ l. l ++ drop (length line) bs) (starts_take line bs h)))) (λ h. h) (cases_Bool (starts_with line bs))

pub other : (e : Ev) (bs : List ℕ) → ((more : List ℕ) → bs ≢ line_of e ++ more) → is_line_of e bs ≡ false
other e bs none = and_right (allowed e) _ (another (line_of e) bs none)

-- what a slice without a prefix is
stripped : (xs : List ℕ) (before : Bor (List ℕ)) (r : Option (Bor (List ℕ))) → MatchOption r ((more : List ℕ) → before.now ≢ xs ++ more) (λ after. before.now ≡ xs ++ after.now) → TakenOff xs (Some before) r
stripped xs before None h = h
stripped xs before (Some after) h = h

pub off_some : (xs : List ℕ) (s t r : Option (Bor (List ℕ))) (before : Bor (List ℕ)) → s ≡ Some before → t ≡ r → MatchOption r ((more : List ℕ) → before.now ≢ xs ++ more) (λ after. before.now ≡ xs ++ after.now) → TakenOff xs s t
off_some xs s t r before p q h = rw (p, q) (stripped xs before r h)

pub off_none : (xs : List ℕ) (s t : Option (Bor (List ℕ))) → s ≡ None → t ≡ None → TakenOff xs s t
off_none xs s t p q = rw (p, q) tt
