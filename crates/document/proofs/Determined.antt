-- The check's answer is determined.
use Rattle.std.proofs.Common.{◌≡◌, ℕ, ◌<◌, ◌≤◌, true, false, cond, eqb, List, length, Some, sym, refl, ap, ◌∙◌, ⊎_elim, arith}
use Rattle.std.proofs.lemmas.Bool.{both_ways, cases_order}
use Rattle.model.specs.Graph.{numbered}
use Rattle.document.specs.declared.node.Node.{Node}
use Rattle.document.specs.declared.refusal.Question.{Question}
use Rattle.document.specs.declared.refusal.Question.TheVariants.{Count, Kind, Tag, Value, Links, Sums}
use Rattle.document.specs.declared.refusal.Refusal.{Refusal}
use Rattle.document.specs.Numbers.{question_number}
use Rattle.document.specs.Questions.{sums_right, kind_right, tag_right, value_right, links_right}
use Rattle.document.specs.Check.{asked, AllRight, FirstFault, Handed, nodes_in, links_in, text_in, nodes_space, RefusedBy, Fit, Determined}
use Rattle.document.proofs.Every.{every_at}

abbrev question_at : ℕ → Question
question_at n = cond (eqb n 41) Count (cond (eqb n 42) Kind (cond (eqb n 43) Tag (cond (eqb n 44) Value (cond (eqb n 45) Links Sums))))

at_number : (q : Question) → question_at (question_number q) ≡ q
at_number Count = refl
at_number Kind = refl
at_number Tag = refl
at_number Value = refl
at_number Links = refl
at_number Sums = refl

same_question : (p q : Question) → question_number p ≡ question_number q → p ≡ q
same_question p q e = sym (at_number p) ∙ (ap question_at e ∙ at_number q)

-- where all nodes are right, each passes every question
pub all_asked : (nodes : List Node) (links text : List ℕ) → AllRight nodes links text → (k : ℕ) (v : Node) → numbered nodes k ≡ Some v → (p : Question) → asked p (length nodes) links text v ≡ true
all_asked nodes links text a k v e Count = refl
all_asked nodes links text a k v e Kind = every_at kind_right nodes k v a.kinds e
all_asked nodes links text a k v e Tag = every_at (tag_right text) nodes k v a.tags e
all_asked nodes links text a k v e Value = every_at (value_right text) nodes k v a.values e
all_asked nodes links text a k v e Links = every_at (links_right (length nodes) links) nodes k v a.linked e
all_asked nodes links text a k v e Sums = refl

no_fault : (nodes : List Node) (links text : List ℕ) (q : Question) (k : ℕ) → FirstFault nodes links text q k → AllRight nodes links text → ⊥
no_fault nodes links text q k f a =
    both_ways (asked q (length nodes) links text f.node) f.wrong.fails (all_asked nodes links text a k f.node f.here q)

pub record SameFault (q r : Question) (j k : ℕ) : Type 0 where
  pub question : q ≡ r
  pub node : j ≡ k

one_node : (nodes : List Node) (links text : List ℕ) (q r : Question) (j k : ℕ) → FirstFault nodes links text q j → FirstFault nodes links text r k → j < k → ⊥
one_node nodes links text q r j k f g less =
    both_ways (asked q (length nodes) links text f.node) f.wrong.fails (g.before j f.node less f.here q)

one_question : (nodes : List Node) (links text : List ℕ) (q r : Question) (j k : ℕ) → FirstFault nodes links text q j → FirstFault nodes links text r k → j ≡ k → question_number q < question_number r → ⊥
one_question nodes links text q r j k f g e less =
    let here = f.here in
    let there = g.here in
    let same : f.node ≡ g.node = cc in
    both_ways (asked q (length nodes) links text f.node) f.wrong.fails
    (ap (asked q (length nodes) links text) same ∙ g.wrong.earlier q less)

one_fault : (nodes : List Node) (links text : List ℕ) (q r : Question) (j k : ℕ) → FirstFault nodes links text q j → FirstFault nodes links text r k → SameFault q r j k
one_fault nodes links text q r j k f g =
    ⊎_elim
    (λ e. ⊎_elim
    (λ same. record { question = same_question q r same; node = e })
    (λ apart. ⊎_elim
    (λ less. absurd (one_question nodes links text q r j k f g e less))
    (λ less. absurd (one_question nodes links text r q k j g f (sym e) less))
    apart)
    (cases_order (question_number q) (question_number r)))
    (λ apart. ⊎_elim
    (λ less. absurd (one_node nodes links text q r j k f g less))
    (λ less. absurd (one_node nodes links text r q k j g f less))
    apart)
    (cases_order j k)

-- the three ways to be refused
data Way (h : Handed) (q : Question) (k : ℕ) : Type 0 where
  many : q ≡ Count → k ≡ 0 → nodes_space h < h.count → Way h q k
  node : h.count ≤ nodes_space h → FirstFault (nodes_in h) (links_in h) (text_in h) q k → Way h q k
  large : q ≡ Sums → k ≡ 0 → h.count ≤ nodes_space h → AllRight (nodes_in h) (links_in h) (text_in h) → sums_right (nodes_in h) ≡ false → Way h q k

way : (h : Handed) (q : Question) (k : ℕ) → RefusedBy h q k → Way h q k
way h Count k r = many refl r.no_node r.too_many
way h Kind k r = node r.enough r.fault
way h Tag k r = node r.enough r.fault
way h Value k r = node r.enough r.fault
way h Links k r = node r.enough r.fault
way h Sums k r = large refl r.fault.no_node r.enough r.fault.right r.fault.too_large

one_way : (h : Handed) (q r : Question) (j k : ℕ) → Way h q j → Way h r k → SameFault q r j k
one_way h q r j k (many a b c) (many x y z) = record { question = a ∙ sym x; node = b ∙ sym y }
one_way h q r j k (many a b c) (node x y) = absurd (omega arith)
one_way h q r j k (many a b c) (large x y z u v) = absurd (omega arith)
one_way h q r j k (node a b) (many x y z) = absurd (omega arith)
one_way h q r j k (node a b) (node x y) = one_fault (nodes_in h) (links_in h) (text_in h) q r j k b y
one_way h q r j k (node a b) (large x y z u v) = absurd (no_fault (nodes_in h) (links_in h) (text_in h) q j b u)
one_way h q r j k (large a b c d e) (many x y z) = absurd (omega arith)
one_way h q r j k (large a b c d e) (node x y) = absurd (no_fault (nodes_in h) (links_in h) (text_in h) r k y d)
one_way h q r j k (large a b c d e) (large x y z u v) = record { question = a ∙ sym x; node = b ∙ sym y }

no_way : (h : Handed) (q : Question) (k : ℕ) → Fit h → Way h q k → ⊥
no_way h q k f (many a b c) = let e = f.enough in omega arith
no_way h q k f (node a b) = no_fault (nodes_in h) (links_in h) (text_in h) q k b f.all.right
no_way h q k f (large a b c d e) = both_ways (sums_right (nodes_in h)) e f.all.small

abbrev refusal : Question → ℕ → Refusal
refusal q k = record { question = q; node = k }

one_refusal : (e f : Refusal) → SameFault e.question f.question e.node f.node → e ≡ f
one_refusal e f s = ap (λ q. refusal q e.node) s.question ∙ ap (refusal f.question) s.node

pub determined : (h : Handed) → Determined h
determined h =
    record {
      one = λ e f r s. one_refusal e f (one_way h e.question f.question e.node f.node (way h e.question e.node r) (way h f.question f.node s));
      none = λ e r fit. no_way h e.question e.node fit (way h e.question e.node r);
    }
