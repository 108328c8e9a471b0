-- What the sink holds reads back.
use Rattle.std.proofs.Common.{◌≡◌, ◌-◌, Bool, true, false, cond, eqb, List, [], ◌∷◌, ◌++◌, map, length, replicate, Some, None, Option, sym, refl, ap, ◌∙◌, subst, ap₂, arith, Err, Ok}
use Rattle.std.specs.List.{flat_map}
use Rattle.std.proofs.lemmas.List.{append_assoc, map-append}
use Rattle.std.proofs.lemmas.Bool.{cond-true, and_parts, and_from}
use Rattle.model.specs.Events.{Ev, allowed, all_allowed}
use Rattle.model.specs.Reading.{Marked, bare}
use Rattle.model.specs.Graph.{Vertex, Book, Alike}
use Rattle.yaml.specs.Flow.{Flow}
use Rattle.serial.specs.Compose.{TakesAll, beginning, Composes}
use Rattle.serial.specs.RoundTrip.{with_nodes}
use Rattle.document.specs.Empty.{empty_node}
use Rattle.document.specs.Check.{handed}
use Rattle.composer.specs.declared.refusal.Refusal.TheVariants.{NoEvent}
use Rattle.composer.specs.State.{St, blank, Lengths, spaces_for}
use Rattle.loader.specs.declared.answer.Loaded.{Loaded}
use Rattle.loader.specs.declared.answer.Phase.{Phase}
use Rattle.loader.specs.declared.answer.Phase.TheVariants.{Fresh, Between}
use Rattle.loader.specs.Loading.{Answer, kept, loading, running, begun, flowing, complete, counted, is_stream_start, is_document_end}
use Rattle.loads.specs.Standing.{Stands}
use Rattle.loads.proofs.Standing.{loaded_stands}
use Rattle.loads.specs.Room.{EventsFit, LoadedAs}
use Rattle.loads.proofs.Exactly.{composed_loads, stops_within}
use Rattle.runs.specs.Writer.{stream_start, stream_end}
use Rattle.runs.specs.Holds.{Piece, book_of, start_of, inner_of, end_of}
use Rattle.runs.specs.Holds.{events_of as piece_events}
use Rattle.runs.specs.ReadBack.{FullSized, tables_after, book_loaded, Gives, LoadsBack}
use Rattle.runs.proofs.Pieces.{front_allowed, front_taken, append_allowed, back, inner_allowed, piece_allowed, pieces_allowed, inner_fits}

-- marked events that stand for some events stand for their parts
pub record Halves (ms : List Marked) (xs ys : List Ev) : Type 0 where
  pub front : List Marked
  pub rest : List Marked
  pub all : ms ≡ front ++ rest
  pub front_is : map bare front ≡ xs
  pub rest_is : map bare rest ≡ ys

halves : (ms : List Marked) (xs ys : List Ev) → map bare ms ≡ xs ++ ys → Halves ms xs ys
halves ms [] ys e = record { front = []; rest = ms; all = refl; front_is = refl; rest_is = e }
halves [] (x ∷ xs) ys e = cc
halves (m ∷ ms) (x ∷ xs) ys e =
    let same : m.event ≡ x = cc in
    let tail : map bare ms ≡ xs ++ ys = cc in
    let r = halves ms xs ys tail in
    record { front = m ∷ r.front; rest = r.rest; all = ap (λ q. m ∷ q) r.all; front_is = ap₂ (λ a q. a ∷ q) same r.front_is; rest_is = r.rest_is }

pub record Headed (ms : List Marked) (x : Ev) (xs : List Ev) : Type 0 where
  pub head : Marked
  pub tail : List Marked
  pub all : ms ≡ head ∷ tail
  pub head_is : head.event ≡ x
  pub tail_is : map bare tail ≡ xs

headed : (ms : List Marked) (x : Ev) (xs : List Ev) → map bare ms ≡ x ∷ xs → Headed ms x xs
headed [] x xs e = cc
headed (m ∷ ms) x xs e =
    let same : m.event ≡ x = cc in
    let rest : map bare ms ≡ xs = cc in
    record { head = m; tail = ms; all = refl; head_is = same; tail_is = rest }

pub none_left : (ms : List Marked) → map bare ms ≡ [] → ms ≡ []
none_left [] e = refl
none_left (m ∷ ms) e = cc

-- loads that come to the same give the same
loads_same : (phase phase' : Phase) (f f' : Flow) → ((l : Lengths) → loading l phase f ≡ loading l phase' f')
    → (books : List Book) (last : Answer) → LoadsBack phase' f' books last → LoadsBack phase f books last
loads_same phase phase' f f' same [] last h = λ l full. ap (λ o. o.answer) (same l) ∙ h l full
loads_same phase phase' f f' same (b ∷ bs) last h =
    λ l full. subst (λ o. Gives b l o × LoadsBack o.phase o.flow bs last) (sym (same l)) (h l full)

-- flags come back
flag_back : (b : Bool) → eqb (cond b 1 0) 1 ≡ b
flag_back true = refl
flag_back false = refl

same_book : (b : Book) (g h : List Vertex) (s e : Bool) → h ≡ g → s ≡ b.start_implicit → e ≡ b.end_implicit → with_nodes b g ≡ record { nodes = h; start_implicit = s; end_implicit = e }
same_book b g h s e p q r = λ i. record { nodes = sym p i; start_implicit = sym q i; end_implicit = sym r i }

end_allowed : (p : Piece) → allowed (end_of p) ≡ true
end_allowed p =
    (and_parts (allowed (end_of p)) true (last_allowed (start_of p ∷ inner_of p) (end_of p ∷ []) (piece_allowed p))).0
  where
    last_allowed : (xs ys : List Ev) → all_allowed (xs ++ ys) ≡ true → all_allowed ys ≡ true
    last_allowed [] ys a = a
    last_allowed (x ∷ xs) ys a = last_allowed xs ys (and_parts (allowed x) (all_allowed (xs ++ ys)) a).1

-- one document
gives_one : (p : Piece) (latest : Option Ev) (start end : Marked) (ms rest : List Marked) (l : Lengths) → FullSized l
    → start.event ≡ start_of p → map bare ms ≡ inner_of p → end.event ≡ end_of p → all_allowed (map bare rest) ≡ true
    → (holds : St) × Gives p.book l (complete start end holds (flowing (Some end.event) rest None))
    × (loading l Between (flowing latest (start ∷ (ms ++ end ∷ rest)) None) ≡ complete start end holds (flowing (Some end.event) rest None))
gives_one p latest start end ms rest l full s-is ms-is e-is rest_ok =
    let b = back p in
    let w : LoadedAs b.back start end (flowing (Some end.event) rest None) (running (spaces_for l) start None (Some start.event) blank (ms ++ end ∷ rest)) =
    composed_loads (spaces_for l) start None (Some start.event) ms rest end b.back
    (ap all_allowed ms-is ∙ inner_allowed p) (subst (λ es. Composes es b.back) (sym ms-is) b.composes) (subst (EventsFit (spaces_for l)) (sym ms-is) (inner_fits p l full)) (ap (λ e. is_document_end e.kind) e-is) in
    let c : Loaded = counted start end w.state in
    let inner_ok : all_allowed (map bare ms) ≡ true = ap all_allowed ms-is ∙ inner_allowed p in
    let end_ok : allowed end.event ≡ true = ap allowed e-is ∙ end_allowed p in
    let ok : all_allowed (map bare (ms ++ end ∷ rest)) ≡ true =
    ap all_allowed (map-append bare ms (end ∷ rest)) ∙ append_allowed (map bare ms) (map bare (end ∷ rest)) inner_ok (and_from (allowed end.event) (all_allowed (map bare rest)) end_ok rest_ok) in
    let t : Stands (tables_after l c w.state) (kept w.state) =
    subst (λ o. Stands (handed (o.holds.nodes ++ replicate (l.nodes - length w.state.nodes) empty_node) (o.holds.links ++ replicate (l.links - length w.state.links) 0)
    (o.holds.text ++ replicate (l.text - length w.state.text) 0) c.nodes) o.holds) w.is
    (loaded_stands (spaces_for l) start None (Some start.event) (ms ++ end ∷ rest) c _ _ _ (record { nodes = omega arith; links = omega arith; text = omega arith }) ok (ap (λ o. o.answer) w.is)) in
    let book : with_nodes p.book b.back ≡ book_loaded l c w.state =
    same_book p.book b.back _ _ _ (t.graph ∙ w.graph)
    (ap (λ e. eqb e.flags 1) s-is ∙ flag_back p.book.start_implicit) (ap (λ e. eqb e.flags 1) e-is ∙ flag_back p.book.end_implicit) in (
      w.state,
      record { counts = c; loaded = refl; stands = t.fit; alike = subst (Alike p.book) book b.alike },
      ap (λ k. begun k (spaces_for l) None start (ms ++ end ∷ rest)) (ap (λ e. e.kind) s-is) ∙ w.is,
    )

-- documents one after the other, and then what stands after them
gives_all : (others : List Ev) (last : Answer) → all_allowed others ≡ true
    → ((latest : Option Ev) (ms : List Marked) → map bare ms ≡ others → LoadsBack Between (flowing latest ms None) [] last)
    → (ps : List Piece) (latest : Option Ev) (ms : List Marked) → map bare ms ≡ flat_map piece_events ps ++ others
    → LoadsBack Between (flowing latest ms None) (map book_of ps) last
gives_all others last ok base [] latest ms e = base latest ms e
gives_all others last ok base (p ∷ ps) latest ms e = λ l full.
    let first = headed ms (start_of p) _ e in
    let inner = halves first.tail (inner_of p) (end_of p ∷ (flat_map piece_events ps ++ others))
    (first.tail_is ∙ append_assoc (inner_of p ++ end_of p ∷ []) (flat_map piece_events ps) others ∙ append_assoc (inner_of p) (end_of p ∷ []) (flat_map piece_events ps ++ others)) in
    let final = headed inner.rest (end_of p) (flat_map piece_events ps ++ others) inner.rest_is in
    let shape : ms ≡ first.head ∷ (inner.front ++ final.head ∷ final.tail) =
    first.all ∙ ap (λ q. first.head ∷ q) (inner.all ∙ ap (λ q. inner.front ++ q) final.all) in
    let r = gives_one p latest first.head final.head inner.front final.tail l full first.head_is inner.front_is final.head_is
    (ap all_allowed final.tail_is ∙ append_allowed (flat_map piece_events ps) others (pieces_allowed ps) ok) in
    let later = gives_all others last ok base ps (Some final.head.event) final.tail final.tail_is in
    subst (λ o. Gives p.book l o × LoadsBack o.phase o.flow (map book_of ps) last)
    (sym (ap (λ q. loading l Between (flowing latest q None)) shape ∙ r.2)) (r.1, later)

-- after the documents: nothing, the stream's end, or the beginning of one document more
pub then_nothing : (latest : Option Ev) (ms : List Marked) → map bare ms ≡ [] → LoadsBack Between (flowing latest ms None) [] (Err NoEvent)
then_nothing latest ms e = λ l full. ap (λ q. (loading l Between (flowing latest q None)).answer) (none_left ms e)

pub then_end : (latest : Option Ev) (ms : List Marked) → map bare ms ≡ stream_end ∷ [] → LoadsBack Between (flowing latest ms None) [] (Ok None)
then_end latest ms e = λ l full.
    let r = headed ms stream_end [] e in
    ap (λ q. (loading l Between (flowing latest q None)).answer) r.all
    ∙ ap (λ k. (begun k (spaces_for l) None r.head r.tail).answer) (ap (λ x. x.kind) r.head_is)

pub then_broken : (p : Piece) (came later : List Ev) → came ++ later ≡ inner_of p
    → (latest : Option Ev) (ms : List Marked) → map bare ms ≡ start_of p ∷ came → LoadsBack Between (flowing latest ms None) [] (Err NoEvent)
then_broken p came later split latest ms e = λ l full.
    let r = headed ms (start_of p) came e in
    let taken = front_taken (back p).composes.taken_in came later (sym split) in
    ap (λ q. (loading l Between (flowing latest q None)).answer) r.all
    ∙ ap (λ k. (begun k (spaces_for l) None r.head r.tail).answer) (ap (λ x. x.kind) r.head_is)
    ∙ stops_within (spaces_for l) r.head None (Some r.head.event) r.tail taken.0
    (ap all_allowed r.tail_is ∙ front_allowed came later (ap all_allowed split ∙ inner_allowed p))
    (subst (λ es. TakesAll beginning es taken.0) (sym r.tail_is) taken.1)
    (λ done more s k f. inner_fits p l full done (more ++ later) s k (sym (append_assoc done more later) ∙ ap (λ es. es ++ later) (f ∙ r.tail_is) ∙ split))

-- a whole stream, from its start
pub from_start : (others : List Ev) (last : Answer) → all_allowed others ≡ true
    → ((latest : Option Ev) (ms : List Marked) → map bare ms ≡ others → LoadsBack Between (flowing latest ms None) [] last)
    → (ps : List Piece) (latest : Option Ev) (ms : List Marked) → map bare ms ≡ stream_start ∷ (flat_map piece_events ps ++ others)
    → LoadsBack Fresh (flowing latest ms None) (map book_of ps) last
from_start others last ok base ps latest ms e =
    let r = headed ms stream_start _ e in
    loads_same Fresh Between (flowing latest ms None) (flowing (Some r.head.event) r.tail None)
    (λ l. ap (λ q. loading l Fresh (flowing latest q None)) r.all
    ∙ cond-true (is_stream_start r.head.event.kind) _ _ (ap (λ x. is_stream_start x.kind) r.head_is))
    (map book_of ps) last (gives_all others last ok base ps (Some r.head.event) r.tail r.tail_is)
