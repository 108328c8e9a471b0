-- Calls made one after the other.
use Rattle.std.proofs.Common.{◌≡◌, ℕ, ◌+◌, ◌<◌, false, List, [], length, get_or, take, drop, set, sym, refl, ap, ◌∙◌, arith}
use Rattle.std.proofs.lemmas.List.{take_more, take_more_set, drop-drop, drop-set-lt}
use Rattle.model.specs.Events.{Ev}
use Rattle.runs.specs.Writer.{State}
use Rattle.kelfhoam_c.specs.declared.told.CallTold.{CallTold}
use Rattle.kelfhoam_c.specs.Writing.{Lent, Turned, Chain, none, more, fresh_with}

module _ (weight : Ev → ℕ) where
  module _ (d : Lent) (start : State) (cs : List ℕ) where
    pub chain_none : (ts : List CallTold) → Chain weight d start (take 0 cs) (take 0 ts) start
    chain_none ts = none refl refl refl

    pub chain_more : (ts : List CallTold) (i : ℕ) (told : CallTold) (s t : State) → i < length cs → i < length ts
        → Chain weight d start (take i cs) (take i ts) s → Turned weight d (get_or cs i 0) s told t → Chain weight d start (take (i + 1) cs) (take (i + 1) (set ts i told)) t
    chain_more ts i told s t p q chain turned = more (get_or cs i 0) told chain turned (take_more cs i 0 p) (take_more_set ts i told q)

-- the entries past the calls
pub rest_more : (ts olds : List CallTold) (i : ℕ) (told : CallTold) → drop i ts ≡ drop i olds → drop (i + 1) (set ts i told) ≡ drop (i + 1) olds
rest_more ts olds i told h = drop-set-lt (i + 1) ts i told (omega arith) ∙ sym (drop-drop 1 i ts) ∙ ap (drop 1) h ∙ drop-drop 1 i olds

-- a writer just made
pub fresh_with_lem : (s : State) (room : ℕ) → s.opened ≡ false → s.closed ≡ false → s.spoilt ≡ false → s.taken ≡ [] → s.room ≡ room → s ≡ fresh_with room
fresh_with_lem s room a b c d e = λ i. record { opened = a i; closed = b i; spoilt = c i; taken = d i; room = e i }
