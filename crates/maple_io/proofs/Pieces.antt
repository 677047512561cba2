-- Texts that are written one behind the other.
use Rattle.std.proofs.Common.{◌≡◌, ◌≢◌, ℕ, ◌+◌, ◌<◌, List, [], ◌++◌, take, drop, length, sym, ap, ◌∙◌, subst, append-nil, append_assoc, take-append-drop, arith}
use Rattle.std.specs.Io.KnownBytes.{Appends, Keeps}
use Rattle.std.proofs.Math.Seq.{take-add}
use Rattle.std.proofs.lemmas.List.{append_cancel_left, length-take-le}
use Rattle.std.proofs.KnownBytes.{Appends-nil, Appends-trans, Appends-kept}
use Rattle.maple_io.specs.Fronts.{IsFront}
use Rattle.maple_io.specs.Views.{SinkView, Wrote}

pub wrote_nothing : (sink : SinkView) → Wrote sink sink []
wrote_nothing sink = record { taken = Appends-nil sink.taken; took = sym (append-nil sink.took) }

pub wrote_then : (old mid new : SinkView) (first second : List ℕ) → Wrote old mid first → Wrote mid new second → Wrote old new (first ++ second)
wrote_then old mid new first second h k = record {
  taken = Appends-trans old.taken mid.taken new.taken first second h.taken k.taken;
  took = k.took ∙ ap (λ l. l ++ second) h.took ∙ append_assoc old.took first second;
}

-- one piece more
pub piece_more : (old mid new : SinkView) (bytes : List ℕ) (at n : ℕ) → Wrote old mid (take at bytes) → Appends mid.taken new.taken (take n (drop at bytes))
    → new.took ≡ mid.took ++ take n (drop at bytes) → Wrote old new (take (at + n) bytes)
piece_more old mid new bytes at n h i e =
    subst (Wrote old new) (sym (take-add at n bytes)) (wrote_then old mid new (take at bytes) (take n (drop at bytes)) h (record { taken = i; took = e }))

-- no more than a front
pub front_kept : (old mid new : SinkView) (bytes : List ℕ) (at : ℕ) → Wrote old mid (take at bytes) → Keeps mid.taken new.taken → new.took ≡ mid.took ++ []
    → (front : List ℕ) × IsFront front bytes × Wrote old new front
front_kept old mid new bytes at h k e = (
  take at bytes,
  (drop at bytes, take-append-drop at bytes),
  record {
    taken = Appends-kept old.taken mid.taken new.taken (take at bytes) h.taken k;
    took = e ∙ append-nil mid.took ∙ h.took;
  },
)

-- a front that ends ahead of the last byte is not all
short_front : (bytes : List ℕ) (at : ℕ) → at < length bytes → take at bytes ≢ bytes
short_front bytes at lt all =
    let same : length (take at bytes) ≡ at = length-take-le at bytes (omega (arith, lt)) in
    omega (arith, lt, same, ap length all)

pub not_all : (old mid new : SinkView) (bytes : List ℕ) (at : ℕ) → Wrote old mid (take at bytes) → at < length bytes → new.took ≡ mid.took ++ []
    → new.took ≢ old.took ++ bytes
not_all old mid new bytes at h lt e all =
    short_front bytes at lt (append_cancel_left old.took (take at bytes) bytes (sym (e ∙ append-nil mid.took ∙ h.took) ∙ all))
