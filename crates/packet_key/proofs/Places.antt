-- A number behind others stands in the whole at the sum of their widths.
use Rattle.std.proofs.Common.{◌≡◌, ℕ, ◌+◌, ◌∙◌, Bool, true, false, cond, nat_eq, List, take, drop, ap, refl}
use Rattle.std.proofs.lemmas.List.{drop-drop}
use Rattle.std.specs.Slice.Scan.{big_endian}
use Rattle.maple_base.specs.NetworkOrder.{number_at}
use Rattle.packet_key.specs.Frames.{is_tagged, type_of, payload}
use Rattle.packet_key.specs.Readings.{IsRead}

-- what is read behind n bytes of a whole, and what is left
pub number_behind : (n width : ℕ) (whole bytes rest : List ℕ) (number : ℕ) → bytes ≡ drop n whole → IsRead width bytes number rest → number ≡ number_at n width whole
number_behind n width whole bytes rest number at read = read.value ∙ ap (λ (xs : List ℕ). big_endian 0 (take width xs)) at

pub rest_behind : (n width : ℕ) (whole bytes rest : List ℕ) (number : ℕ) → bytes ≡ drop n whole → IsRead width bytes number rest → rest ≡ drop (n + width) whole
rest_behind n width whole bytes rest number at read = read.behind ∙ ap (drop width) at ∙ drop-drop width n whole

-- the type and the payload of a frame, by what stands behind its first 14 bytes
pub type_by : (tagged : Bool) (frame : List ℕ) → cond tagged (number_at 2 2 (drop 14 frame)) (number_at 12 2 frame) ≡ number_at (cond tagged 16 12) 2 frame
type_by true frame = ap (λ (xs : List ℕ). big_endian 0 (take 2 xs)) (drop-drop 2 14 frame)
type_by false frame = refl

pub payload_by : (tagged : Bool) (frame : List ℕ) → cond tagged (drop 4 (drop 14 frame)) (drop 14 frame) ≡ drop (cond tagged 16 12 + 2) frame
payload_by true frame = drop-drop 4 14 frame
payload_by false frame = refl

-- where the parts of an IP header that the key names stand, when its ten parts are read in order
pub ip_places : {packet a b c d e f g h i j : List ℕ} {version tos total identification flags time proto checksum src dst : ℕ} → IsRead 1 packet version a → IsRead 1 a tos b → IsRead 2 b total c
    → IsRead 2 c identification d → IsRead 2 d flags e → IsRead 1 e time f → IsRead 1 f proto g → IsRead 2 g checksum h → IsRead 4 h src i → IsRead 4 i dst j
    → (flags ≡ number_at 6 2 packet) × (proto ≡ number_at 9 1 packet) × (src ≡ number_at 12 4 packet) × (dst ≡ number_at 16 4 packet)
ip_places {packet} version tos total identification flags time proto checksum src dst =
    let at_2 = rest_behind 1 1 packet _ _ _ version.behind tos in
    let at_4 = rest_behind 2 2 packet _ _ _ at_2 total in
    let at_6 = rest_behind 4 2 packet _ _ _ at_4 identification in
    let at_8 = rest_behind 6 2 packet _ _ _ at_6 flags in
    let at_9 = rest_behind 8 1 packet _ _ _ at_8 time in
    let at_10 = rest_behind 9 1 packet _ _ _ at_9 proto in
    let at_12 = rest_behind 10 2 packet _ _ _ at_10 checksum in
    let at_16 = rest_behind 12 4 packet _ _ _ at_12 src in
    (number_behind 6 2 packet _ _ _ at_6 flags, number_behind 9 1 packet _ _ _ at_9 proto, number_behind 12 4 packet _ _ _ at_12 src, number_behind 16 4 packet _ _ _ at_16 dst)

-- the type and the payload, from the first 14 bytes and a tag
pub behind_tag : (frame : List ℕ) {rest payload_is : List ℕ} {first second : ℕ} → first ≡ number_at 12 2 frame → rest ≡ drop 14 frame → second ≡ cond (nat_eq first 0x8100) (number_at 2 2 rest) first
    → payload_is ≡ cond (nat_eq first 0x8100) (drop 4 rest) rest → (second ≡ type_of frame) × (payload_is ≡ payload frame)
behind_tag frame first rest second behind =
    ((rw (first, rest) at second) ∙ type_by (is_tagged frame) frame, (rw (first, rest) at behind) ∙ payload_by (is_tagged frame) frame)
