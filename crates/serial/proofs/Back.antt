-- Whatever the events of a walk compose to is alike; an example.
use Rattle.std.proofs.Common.{◌≡◌, List, [], ◌∷◌, codes, refl, subst, arith}
use Rattle.model.specs.declared.EventKind.TheVariants.{SequenceEnd}
use Rattle.model.specs.declared.NodeKind.TheVariants.{Sequence}
use Rattle.model.specs.Graph.{Look, Vertex, Alike}
use Rattle.serial.specs.Walk.{Token, first, again, leave, met, into, out, Steps, Walk}
use Rattle.serial.specs.Numbering.{anchor_of}
use Rattle.serial.specs.Serialize.{default_tag, plain, node_event, alias_event, walk_events}
use Rattle.serial.specs.Compose.{alias, start, end, TakesAll, Composes}
use Rattle.serial.specs.RoundTrip.{with_nodes, ComposedAlike}
use Rattle.serial.proofs.Paths.{round_trip}
use Rattle.serial.proofs.Unique.{one_document}

pub composed_alike : ComposedAlike
composed_alike b deep ts seen anchors h sound walk tells c =
    let r = round_trip b deep ts seen anchors sound walk tells in
    subst (λ g. Alike b (with_nodes b g)) (one_document r.composes c) r.alike

-- a sequence that holds itself
look : Look
look = record { kind = Sequence; style = 1; tag = default_tag Sequence; value = [] }

ring : List Vertex
ring = record { look = look; links = 1 ∷ [] } ∷ []

tokens : List Token
tokens = first 1 ∷ (again 1 ∷ (leave 1 ∷ []))

ring_walk : Walk ring 1 tokens (1 ∷ [])
unfolding ring tokens look
ring_walk = record { steps = Steps.more (into refl refl refl) (omega arith) (Steps.more (met refl) (omega arith) (Steps.more out (omega arith) Steps.none)) }

ring_events : walk_events (anchor_of ring) ring tokens ≡ node_event (codes "id001") look ∷ (alias_event (codes "id001") ∷ (plain SequenceEnd 0 ∷ []))
unfolding ring tokens look
ring_events = refl

ring_back : Composes (node_event (codes "id001") look ∷ (alias_event (codes "id001") ∷ (plain SequenceEnd 0 ∷ []))) ring
unfolding ring look
ring_back = record {
  end_state = _;
  complete = refl;
  result = refl;
  taken_in = TakesAll.more (start Sequence refl refl refl refl refl refl) (TakesAll.more (alias refl refl tt refl refl) (TakesAll.more (end refl refl refl refl tt refl) TakesAll.none));
}
