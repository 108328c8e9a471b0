-- Being alike by paths is an equivalence.
use Rattle.std.proofs.Common.{sym, refl, ◌∙◌}
use Rattle.model.specs.Graph.{Book, Alike}

pub alike_same : (a : Book) → Alike a a
alike_same a = record { start = refl; end = refl; paths = λ p. refl; looks = λ p. refl; sharing = λ p q. ((λ e. e), λ e. e) }

pub alike_back : {a b : Book} → Alike a b → Alike b a
alike_back s = record {
  start = sym s.start;
  end = sym s.end;
  paths = λ p. sym (s.paths p);
  looks = λ p. sym (s.looks p);
  sharing = λ p q. ((s.sharing p q).1, (s.sharing p q).0);
}

pub alike_on : {a b c : Book} → Alike a b → Alike b c → Alike a c
alike_on s t = record {
  start = s.start ∙ t.start;
  end = s.end ∙ t.end;
  paths = λ p. s.paths p ∙ t.paths p;
  looks = λ p. s.looks p ∙ t.looks p;
  sharing = λ p q. ((λ e. (t.sharing p q).0 ((s.sharing p q).0 e)), λ e. (s.sharing p q).1 ((t.sharing p q).1 e));
}
