-- Worked examples of the packed format: they compute.
use Rattle.std.specs.Prelude.{◌≡◌, ℕ, List, [], ◌∷◌, ◌++◌, None, codes, refl}
use Rattle.model.specs.declared.EventKind.{EventKind}
use Rattle.model.specs.declared.EventKind.TheVariants.{StreamStart, StreamEnd, DocumentStart, DocumentEnd, Alias, Scalar, SequenceStart, SequenceEnd}
use Rattle.model.specs.declared.Cause.TheVariants.{HeadCut, HeadNotAllowed, TextsCut, ZeroByte}
use Rattle.model.specs.Events.{Ev}
use Rattle.model.specs.Reading.{read_all, events_of, ended, fault, reading, write_all}
use Rattle.packed.specs.Packed.{packed_of, packed_front}

abbrev pub plain : EventKind → ℕ → ℕ → Ev
plain k s f = record { kind = k; style = s; flags = f; anchor = []; tag = []; value = [] }

-- a sequence of the scalar 15, marked s, and an alias of it
abbrev pub book : List Ev
book = plain StreamStart 0 0 ∷ (plain DocumentStart 0 1 ∷ (plain SequenceStart 1 1
    ∷ (record { kind = Scalar; style = 1; flags = 1; anchor = codes "s"; tag = []; value = codes "15" }
    ∷ (record { kind = Alias; style = 0; flags = 0; anchor = codes "s"; tag = []; value = [] }
    ∷ (plain SequenceEnd 0 0 ∷ (plain DocumentEnd 0 1 ∷ (plain StreamEnd 0 0 ∷ [])))))))

abbrev pub bytes : List ℕ
bytes =
    (1 ∷ (0 ∷ (0 ∷ (0 ∷ (0 ∷ (0 ∷ (0 ∷ (0 ∷ (0 ∷ [])))))))))
    ++ ((3 ∷ (0 ∷ (1 ∷ (0 ∷ (0 ∷ (0 ∷ (0 ∷ (0 ∷ (0 ∷ [])))))))))
    ++ ((7 ∷ (1 ∷ (1 ∷ (0 ∷ (0 ∷ (0 ∷ (0 ∷ (0 ∷ (0 ∷ [])))))))))
    ++ ((6 ∷ (1 ∷ (1 ∷ (0 ∷ (1 ∷ (0 ∷ (0 ∷ (0 ∷ (2 ∷ (115 ∷ (49 ∷ (53 ∷ []))))))))))))
    ++ ((5 ∷ (0 ∷ (0 ∷ (0 ∷ (1 ∷ (0 ∷ (0 ∷ (0 ∷ (0 ∷ (115 ∷ []))))))))))
    ++ ((8 ∷ (0 ∷ (0 ∷ (0 ∷ (0 ∷ (0 ∷ (0 ∷ (0 ∷ (0 ∷ [])))))))))
    ++ ((4 ∷ (0 ∷ (1 ∷ (0 ∷ (0 ∷ (0 ∷ (0 ∷ (0 ∷ (0 ∷ [])))))))))
    ++ ((2 ∷ (0 ∷ (0 ∷ (0 ∷ (0 ∷ (0 ∷ (0 ∷ (0 ∷ (0 ∷ []))))))))))))))))

pub the_book_written : write_all packed_of book ≡ bytes
the_book_written = refl

pub the_book_read : events_of (read_all packed_front bytes) ≡ book
unfolding reading
the_book_read = refl

pub nothing_after_it : (read_all packed_front bytes).after ≡ None
unfolding reading
nothing_after_it = refl

pub no_bytes : read_all packed_front [] ≡ ended
unfolding reading
no_bytes = refl

pub cut_head : packed_front (1 ∷ (0 ∷ [])) ≡ fault HeadCut
cut_head = refl

pub no_such_kind : packed_front (11 ∷ (0 ∷ (0 ∷ (0 ∷ (0 ∷ (0 ∷ (0 ∷ (0 ∷ (0 ∷ []))))))))) ≡ fault HeadNotAllowed
no_such_kind = refl

pub cut_texts : packed_front (5 ∷ (0 ∷ (0 ∷ (0 ∷ (1 ∷ (0 ∷ (0 ∷ (0 ∷ (0 ∷ []))))))))) ≡ fault TextsCut
cut_texts = refl

pub zero_in_anchor : packed_front (5 ∷ (0 ∷ (0 ∷ (0 ∷ (1 ∷ (0 ∷ (0 ∷ (0 ∷ (0 ∷ (0 ∷ [])))))))))) ≡ fault ZeroByte
zero_in_anchor = refl
