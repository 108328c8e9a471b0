-- The loader's turns are composing's.
use Rattle.std.proofs.Common.{◌≡◌, Bool, true, false, List, [], ◌∷◌, Ok, refl, ap, ◌∙◌, subst}
use Rattle.model.specs.declared.EventKind.{EventKind}
use Rattle.model.specs.declared.EventKind.TheVariants.{StreamStart, StreamEnd, DocumentStart, DocumentEnd, Alias, Scalar as ScalarEvent, SequenceStart, SequenceEnd, MappingStart, MappingEnd}
use Rattle.model.specs.declared.NodeKind.{NodeKind}
use Rattle.model.specs.declared.NodeKind.TheVariants.{Scalar, Sequence, Mapping}
use Rattle.model.specs.Events.{Ev}
use Rattle.model.specs.Reading.{Marked}
use Rattle.serial.specs.Serialize.{start_kind, end_kind}
use Rattle.serial.specs.Compose.{Composed, TakesIn, alias, scalar, start, end}
use Rattle.composer.specs.declared.frames.Frame.{Frame}
use Rattle.composer.specs.declared.refusal.Refusal.TheVariants.{NotInTurn}
use Rattle.composer.specs.State.{St, Spaces}
use Rattle.composer.specs.Steps.{takes_child, in_turn, closing, closed_by, taken}
use Rattle.loads.specs.Tidy.{composed_of, Tidy, collection_kind}
use Rattle.loads.specs.Refusing.{TakesChild, EndsOne, InTurn}
use Rattle.loads.proofs.Making.{received}
use Rattle.loads.proofs.Ways.{ok_if}
use Rattle.loads.proofs.Steps.{ends, ends_some, end_step}
use Rattle.loads.proofs.Accepting.{turn_back, end_back}
use Rattle.loads.proofs.Running.{whole_open}
use Rattle.loads.proofs.Exactly.{open_whole}

-- a turn of one kind is none of another
abbrev is_end : EventKind → Bool
is_end StreamStart = false
is_end StreamEnd = false
is_end DocumentStart = false
is_end DocumentEnd = false
is_end Alias = false
is_end ScalarEvent = false
is_end SequenceStart = false
is_end SequenceEnd = true
is_end MappingStart = false
is_end MappingEnd = true

start_no_end : (k : NodeKind) → is_end (start_kind k) ≡ false
start_no_end Scalar = refl
start_no_end Sequence = refl
start_no_end Mapping = refl

ends_one : {c d : Composed} {e : Ev} → is_end e.kind ≡ true → TakesIn c e d → EndsOne c e
ends_one h (alias kind was takes known is) = let q = ap is_end kind in cc
ends_one h (scalar kind was takes new is) = let q = ap is_end kind in cc
ends_one h (start k collection kind was takes new is) = let q = ap is_end kind ∙ start_no_end k in cc
ends_one h (end {v = v} {children = ks} {frames = fs} {x = x} was here collection kind whole is) =
    record { number = v; children = ks; others = fs; node = x; is = was; here = here; collection = collection; kind = kind; whole = whole }

some_closing : (mapping : Bool) (fs : List Frame) (m : Marked) (s : St) → ends mapping fs ≡ true → (t : St) × (closing fs m.end s ≡ Ok t)
some_closing mapping [] m s turn = absurd (ends_some mapping turn)
some_closing mapping (f ∷ fs) m s turn = (closed_by f fs m.end s, refl)

end_on : (mapping : Bool) (m : Marked) (s : St) → m.event.kind ≡ end_kind (collection_kind mapping) → is_end m.event.kind ≡ true → ends mapping s.frames ≡ true → Tidy s → EndsOne (composed_of s) m.event
end_on mapping m s kind is turn tidy =
    let c = some_closing mapping s.frames m s turn in
    ends_one is (end_step mapping s.frames m s c.0 refl kind turn tidy c.1).taken

child_on : (s : St) → takes_child s.frames s.nodes ≡ true → Tidy s → TakesChild (composed_of s)
child_on s turn tidy =
    let r = received s.frames s.nodes s.waiting 1 turn tidy.opens (λ none. refl) in
    record { to = r.to; children = r.children; others = r.others; is = r.before; takes = r.takes }

pub turn_on : (k : EventKind) (m : Marked) (s : St) → m.event.kind ≡ k → Tidy s → in_turn k s ≡ true → InTurn k (composed_of s) m.event
turn_on StreamStart m s is tidy turn = cc
turn_on StreamEnd m s is tidy turn = cc
turn_on DocumentStart m s is tidy turn = cc
turn_on DocumentEnd m s is tidy turn = whole_open s.frames s.nodes s.waiting turn
turn_on Alias m s is tidy turn = child_on s turn tidy
turn_on ScalarEvent m s is tidy turn = child_on s turn tidy
turn_on SequenceStart m s is tidy turn = child_on s turn tidy
turn_on SequenceEnd m s is tidy turn = end_on false m s is (ap is_end is) turn tidy
turn_on MappingStart m s is tidy turn = child_on s turn tidy
turn_on MappingEnd m s is tidy turn = end_on true m s is (ap is_end is) turn tidy

pub child_off : (s : St) → TakesChild (composed_of s) → takes_child s.frames s.nodes ≡ true
child_off s t = turn_back s.frames s.nodes s.waiting t.is t.takes

end_off : (k : EventKind) (sp : Spaces) (m : Marked) (s : St) → m.event.kind ≡ k → Tidy s → EndsOne (composed_of s) m.event → in_turn k s ≡ true
end_off k sp m s is tidy o =
    let r = end_back s.frames sp m s {v = o.number} {children = o.children} {others = o.others} {x = o.node} refl tidy.opens o.is o.here o.kind o.whole in
    subst (λ q. in_turn q s ≡ true) is (ok_if (in_turn m.event.kind s) (taken m.event.kind sp m s) (NotInTurn m.start) r.0 r.1).0

pub turn_off : (k : EventKind) (sp : Spaces) (m : Marked) (s : St) → m.event.kind ≡ k → Tidy s → InTurn k (composed_of s) m.event → in_turn k s ≡ true
turn_off StreamStart sp m s is tidy t = absurd t
turn_off StreamEnd sp m s is tidy t = absurd t
turn_off DocumentStart sp m s is tidy t = absurd t
turn_off DocumentEnd sp m s is tidy t = open_whole s.frames s.nodes s.waiting t
turn_off Alias sp m s is tidy t = child_off s t
turn_off ScalarEvent sp m s is tidy t = child_off s t
turn_off SequenceStart sp m s is tidy t = child_off s t
turn_off SequenceEnd sp m s is tidy t = end_off SequenceEnd sp m s is tidy t
turn_off MappingStart sp m s is tidy t = child_off s t
turn_off MappingEnd sp m s is tidy t = end_off MappingEnd sp m s is tidy t
