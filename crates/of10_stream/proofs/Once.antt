-- A stream is cut in one way.
use Rattle.std.proofs.Common.{◌≡◌, ℕ, ◌+◌, List, [], ◌∷◌, ◌++◌, length, take, drop, refl, sym, subst, ap, ◌∙◌}
use Rattle.std.proofs.Math.Seq.{drop-append_seam}
use Rattle.of10_codec.specs.declared.message.Message.{Message}
use Rattle.of10_codec.specs.Messages.{Spelled}
use Rattle.of10_codec.proofs.Shown.{one_message}
use Rattle.of10_stream.specs.Cut.{told, End, Open, Faulty, EndsAt, IsOpen, IsBad, IsCutFrom}
use Rattle.of10_stream.specs.Laws.{OneCut}
use Rattle.of10_stream.proofs.Fronts.{front_taken, not_open, not_bad, open_not_bad, one_bad}

one_end : (e f : End) (place : ℕ) (b : List ℕ) → EndsAt e place b → EndsAt f place b → e ≡ f
one_end Open Open place b h k = refl
one_end Open (Faulty at bad) place b h k = absurd (open_not_bad bad b h k.1)
one_end (Faulty at bad) Open place b h k = absurd (open_not_bad bad b k h.1)
one_end (Faulty at bad) (Faulty at' bad') place b h k = let e = one_bad bad bad' b h.1 k.1 in cc

-- at the end stands no message
no_end : (e : End) (m : Message) (place : ℕ) (b front rest : List ℕ) → EndsAt e place b → b ≡ front ++ rest → Spelled m front → ⊥
no_end Open m place b front rest h e s = not_open m front rest s (subst IsOpen e h)
no_end (Faulty at bad) m place b front rest h e s = not_bad m bad front rest s (subst (IsBad bad) e h.1)

same_front : (m n : Message) (b front rest front' rest' : List ℕ) → b ≡ front ++ rest → Spelled m front → b ≡ front' ++ rest' → Spelled n front' → front ≡ front'
same_front m n b front rest front' rest' e s e' s' =
    sym (front_taken m front rest s) ∙ ap (λ x. take (told x) x) (sym e ∙ e') ∙ front_taken n front' rest' s'

one_from : (ms ns : List Message) (e f : End) (place : ℕ) (b : List ℕ) → IsCutFrom place ms e b → IsCutFrom place ns f b → (ms ≡ ns) × (e ≡ f)
one_from [] [] e f place b h k = (refl, one_end e f place b h k)
one_from [] (n ∷ ns) e f place b h k = absurd (no_end e n place b k.0 k.1 h k.2 k.3)
one_from (m ∷ ms) [] e f place b h k = absurd (no_end f m place b h.0 h.1 k h.2 h.3)
one_from (m ∷ ms) (n ∷ ns) e f place b h k =
    let front : h.0 ≡ k.0 = same_front m n b h.0 h.1 k.0 k.1 h.2 h.3 k.2 k.3 in
    let rest : h.1 ≡ k.1 = sym (drop-append_seam h.0 h.1) ∙ ap (λ x. drop (length x) (h.0 ++ h.1)) front ∙ ap (drop (length k.0)) (sym h.2 ∙ k.2) ∙ drop-append_seam k.0 k.1 in
    let cut : IsCutFrom (place + length h.0) ns f h.1 = subst (λ x. IsCutFrom (place + length x) ns f h.1) (sym front) (subst (IsCutFrom (place + length k.0) ns f) (sym rest) k.4) in
    let one : m ≡ n = one_message m n h.0 h.3 (subst (Spelled n) (sym front) k.3) in
    let more = one_from ms ns e f (place + length h.0) h.1 h.4 cut in
    (ap (λ x. x ∷ ms) one ∙ ap (λ x. n ∷ x) more.0, more.1)

pub one_cut : OneCut
one_cut ms ns e f b = one_from ms ns e f 0 b
