-- The CRC by words: one word after the other, octets as words, those that a digest ends with, and its parts. Assumes nothing.
use Prim.Native.Nat.{ℕ, zero, suc, ◌+◌, ◌*◌, ◌/◌, ◌%◌, ◌^◌, ◌≤◌, ◌<◌}
use native.Mathlib.Numerals.{add-one}
use native.Mathlib.Omega.{arith}
use mathlib.Core.Path.{◌≡◌, refl, ap, ap₂, ◌∙◌, sym, subst}
use mathlib.Core.List.{List, [], ◌∷◌, ◌++◌}
use lib.ListN.{length, get_or, take, drop, drop_of_length-le, length-drop}
use lib.Seq.{drop-cons, drop-drop, take_all}
use lib.Bits.{bit_xor, xor_lt}
use Rattle.lists.specs.Lists.{Every}
use Rattle.lists.proofs.Lists.{every-at, every-place, every_drop}
use Rattle.octets.specs.Octets.{octets_of}
use Rattle.octets.proofs.Laws.{length-octets, octets-octets, elements, take-elements}
use Rattle.octet_words.specs.Words.{low_first, low_octets}
use Rattle.crc.specs.Crc.{all_ones, crc_bits, crc_over}
use Rattle.hrw.specs.Weight.{flow_digest_of}
use Rattle.hrw.specs.Steps.{over_words, words_in, part_of}
use Rattle.hrw.proofs.Laws.{crc_over-four, crc_over-end, low-lt, padded-over, flow-digest-steps}

-- one word more, and the end
pub words-on : (r i : ℕ) (s : List ℕ) {q : ℕ} → i < length s → q ≡ crc_bits 32 (bit_xor r (get_or s i 0)) → over_words q (drop (i + 1) s) ≡ over_words r (drop i s)
unfolding over_words
words-on r i s h e = rw (add-one, e) (sym (ap (over_words r) (drop-cons s i 0 h)))

pub words-end : (r i : ℕ) (s : List ℕ) → length s ≤ i → over_words r (drop i s) ≡ r
unfolding over_words
words-end r i s h = ap (over_words r) (drop_of_length-le s h)

-- octets as words: how many there are, the word at a place, and all of them
pub words-length : (n : ℕ) (s : List ℕ) → length (words_in n s) ≡ n
unfolding words_in
words-length zero s = refl
words-length (suc n) s = ap suc (words-length n (drop 4 s))

pub words-at : (n i : ℕ) (s : List ℕ) → i < n → get_or (words_in n s) i 0 ≡ low_first (take 4 (drop (4 * i) s))
unfolding words_in
words-at zero i s h = absurd (omega arith)
words-at (suc n) zero s h = refl
words-at (suc n) (suc i) s h =
    let e : 4 + 4 * i ≡ 4 * suc i = omega arith in
    words-at n i (drop 4 s) (omega arith) ∙ ap (λ (l : List ℕ). low_first (take 4 l)) (drop-drop (4 * i) 4 s ∙ ap (λ (k : ℕ). drop k s) e)

-- they go as the octets do
pub over-words : (n c : ℕ) (s : List ℕ) → length s ≡ 4 * n → Every (λ o. o < 256) s → over_words c (words_in n s) ≡ crc_over c s
unfolding over_words words_in
over-words zero c s h o = sym (crc_over-end c s 0 (omega (arith, h)))
over-words (suc n) c s h o =
    over-words n (crc_bits 32 (bit_xor c (low_first (take 4 s)))) (drop 4 s) (length-drop 4 s ∙ omega (arith, h)) (every_drop (λ (x : ℕ). x < 256) 4 s o)
    ∙ sym (crc_over-four c s 0 o (omega (arith, h)))

-- the high half of one word and the low half of another
abbrev pub halves : ℕ → ℕ → ℕ
halves l h = l / 65536 + h % 65536 * 65536

ten : (x a b c d e f g h i j : ℕ) → x < 2 ^ 32 → a < 256 → b < 256 → c < 256 → d < 256 → e < 256 → f < 256 → g < 256 → h < 256 → i < 256 → j < 256
    → halves 0 x ∷ halves x (a + 256 * (b + 256 * (c + 256 * (d + 256 * 0)))) ∷ halves (a + 256 * (b + 256 * (c + 256 * (d + 256 * 0)))) (e + 256 * (f + 256 * (g + 256 * (h + 256 * 0))))
    ∷ halves (e + 256 * (f + 256 * (g + 256 * (h + 256 * 0)))) (i + 256 * (j + 256 * 0)) ∷ []
    ≡ words_in 4 (0 ∷ 0 ∷ (low_octets 4 x ++ (a ∷ b ∷ c ∷ d ∷ e ∷ f ∷ g ∷ h ∷ i ∷ j ∷ [])))
unfolding low_first low_octets words_in
ten x a b c d e f g h i j lx la lb lc ld le lf lg lh li lj =
    ap₂ (λ (p : ℕ) (q : List ℕ). p ∷ q) (omega arith)
    (ap₂ (λ (p : ℕ) (q : List ℕ). p ∷ q) (omega arith)
    (ap₂ (λ (p : ℕ) (q : List ℕ). p ∷ q) (omega arith)
    (ap₂ (λ (p : ℕ) (q : List ℕ). p ∷ q) (omega arith) refl)))

-- the words that a digest ends with, from those of the tag and of the identifier
pub ten-words : (x : ℕ) (s : List ℕ) {u v w y : ℕ} → x < 2 ^ 32 → length s ≡ 10 → Every (λ o. o < 256) s
    → u ≡ halves 0 x → v ≡ halves x (low_first (take 4 s)) → w ≡ halves (low_first (take 4 s)) (low_first (take 4 (drop 4 s))) → y ≡ halves (low_first (take 4 (drop 4 s))) (low_first (take 2 (drop 8 s)))
    → u ∷ v ∷ w ∷ y ∷ [] ≡ words_in 4 (0 ∷ 0 ∷ (low_octets 4 x ++ s))
unfolding low_first
ten-words x s lx n o eu ev ew ey =
    let at : (i : ℕ) → get_or s i 0 < 256 = λ (i : ℕ). every-at (λ (k : ℕ). k < 256) s i 0 (omega arith) o in
    let all : elements 10 0 s ≡ s = sym (take-elements 10 0 s (omega arith)) ∙ take_all 10 s (omega arith) in
    rw (eu, ev, ew, ey)
    (subst (λ (l : List ℕ). halves 0 x ∷ halves x (low_first (take 4 l)) ∷ halves (low_first (take 4 l)) (low_first (take 4 (drop 4 l))) ∷ halves (low_first (take 4 (drop 4 l))) (low_first (take 2 (drop 8 l))) ∷ [] ≡ words_in 4 (0 ∷ 0 ∷ (low_octets 4 x ++ l))) all
    (ten x _ _ _ _ _ _ _ _ _ _ lx (at 0) (at 1) (at 2) (at 3) (at 4) (at 5) (at 6) (at 7) (at 8) (at 9)))

pub padded-words : (c tag w : ℕ) (head s : List ℕ) {p q r t : ℕ} → c < 2 ^ 32 → length s ≡ 10 → Every (λ o. o < 256) s → head ≡ octets_of 4 tag → w ≡ low_first (take 4 head)
    → p ≡ halves 0 (bit_xor c w) → q ≡ halves (bit_xor c w) (low_first (take 4 s)) → r ≡ halves (low_first (take 4 s)) (low_first (take 4 (drop 4 s))) → t ≡ halves (low_first (take 4 (drop 4 s))) (low_first (take 2 (drop 8 s)))
    → p ∷ q ∷ r ∷ t ∷ [] ≡ words_in 4 (0 ∷ 0 ∷ (low_octets 4 (bit_xor c (low_first (octets_of 4 tag))) ++ s))
padded-words c tag w head s h n o eh ew ep eq er et =
    let octets = every-place (λ (x : ℕ). x < 256) (octets_of 4 tag) 0 (λ i _. octets-octets 4 tag i) in
    let e : w ≡ low_first (octets_of 4 tag) = ew ∙ ap (λ (l : List ℕ). low_first (take 4 l)) eh ∙ ap low_first (take_all 4 (octets_of 4 tag) (omega (arith, length-octets 4 tag))) in
    let wide : low_first (octets_of 4 tag) < 2 ^ 32 = rw (length-octets 4 tag) at (low-lt (octets_of 4 tag) octets) in
    ten-words (bit_xor c w) s (xor_lt 32 c w h (rw e wide)) n o ep eq er et ∙ ap (λ (k : ℕ). words_in 4 (0 ∷ 0 ∷ (low_octets 4 (bit_xor c k) ++ s))) e

-- they go as the sixteen octets do
pub padded-sixteen : (x : ℕ) (s : List ℕ) → length s ≡ 10 → Every (λ o. o < 256) s → over_words 0 (words_in 4 (0 ∷ 0 ∷ (low_octets 4 x ++ s))) ≡ crc_over 0 (0 ∷ 0 ∷ (low_octets 4 x ++ s))
unfolding low_octets Every
padded-sixteen x s n o =
    let small : (k : ℕ) → k % 256 < 256 = λ (k : ℕ). omega arith in
    over-words 4 0 (0 ∷ 0 ∷ (low_octets 4 x ++ s)) (omega (arith, n)) (omega arith, (omega arith, (small x, (small (x / 256), (small (x / 256 / 256), (small (x / 256 / 256 / 256), o))))))

-- which words a part of a digest has
pub part-source : (p : ℕ) (s g last : List ℕ) → p ≡ 0 → part_of p s g last ≡ words_in (length s / 4) s
unfolding part_of
part-source p s g last e = rw e refl

pub part-group : (p : ℕ) (s g last : List ℕ) → p ≡ 1 → part_of p s g last ≡ words_in (length g / 4) g
unfolding part_of
part-group p s g last e = rw e refl

pub part-last : (p : ℕ) (s g last : List ℕ) → (p ≡ 0 → ⊥) → (p ≡ 1 → ⊥) → part_of p s g last ≡ last
unfolding part_of
part-last zero s g last h k = absurd (h refl)
part-last (suc zero) s g last h k = absurd (k refl)
part-last (suc (suc p)) s g last h k = refl

-- where octets are the part, a word of it lies in them
pub word-within : (i : ℕ) (s : List ℕ) {l : List ℕ} → i < length l → l ≡ words_in (length s / 4) s → 4 * i + 4 ≤ length s
word-within i s h e = omega (arith, ap length e ∙ words-length (length s / 4) s)

pub word-there : (i : ℕ) (s : List ℕ) {l : List ℕ} → i < length l → l ≡ words_in (length s / 4) s → get_or l i 0 ≡ low_first (take 4 (drop (4 * i) s))
word-there i s h e = ap (λ (k : List ℕ). get_or k i 0) e ∙ words-at (length s / 4) i s (omega (arith, ap length e ∙ words-length (length s / 4) s))

pub last_within : (i : ℕ) (last : List ℕ) {l : List ℕ} → i < length l → l ≡ last → i < length last
last_within i last h e = rw e at h

-- the register before each part of a digest, and behind the last
unfoldable pub register_at : ℕ → List ℕ → List ℕ → List ℕ → ℕ
register_at zero s g end = all_ones
register_at (suc zero) s g end = crc_over all_ones s
register_at (suc (suc zero)) s g end = crc_over (crc_over all_ones s) g
register_at (suc (suc (suc p))) s g end = crc_over (crc_over (crc_over all_ones s) g) end

-- a part of octets takes the register from before it to behind it
pub octets-part : (p r : ℕ) (s g end last : List ℕ) → p < 2 → length s % 4 ≡ 0 → length g % 4 ≡ 0 → Every (λ o. o < 256) s → Every (λ o. o < 256) g
    → r ≡ register_at p s g end → over_words r (part_of p s g last) ≡ register_at (p + 1) s g end
unfolding part_of register_at
octets-part zero r s g end last h hs hg os og e = over-words (length s / 4) r s (omega arith) os ∙ ap (λ (c : ℕ). crc_over c s) e
octets-part (suc zero) r s g end last h hs hg os og e = over-words (length g / 4) r g (omega arith) og ∙ ap (λ (c : ℕ). crc_over c g) e
octets-part (suc (suc p)) r s g end last h hs hg os og e = absurd (omega arith)

-- and so do the words at its end, from an empty register
pub last-part : (p r q tag : ℕ) (s g esi last : List ℕ) → p ≡ 2 → q ≡ 0 → r < 2 ^ 32 → length esi ≡ 10 → Every (λ o. o < 256) esi → r ≡ register_at p s g (octets_of 4 tag ++ esi)
    → last ≡ words_in 4 (0 ∷ 0 ∷ (low_octets 4 (bit_xor r (low_first (octets_of 4 tag))) ++ esi)) → over_words q (part_of p s g last) ≡ register_at (p + 1) s g (octets_of 4 tag ++ esi)
unfolding part_of register_at
last-part p r q tag s g esi last two empty h n o e l =
    let e' : r ≡ crc_over (crc_over all_ones s) g = rw two at e in
    rw (two, empty)
    (ap (over_words 0) l ∙ padded-sixteen (bit_xor r (low_first (octets_of 4 tag))) esi n o ∙ padded-over r tag esi h ∙ ap (λ (c : ℕ). crc_over c (octets_of 4 tag ++ esi)) e')

-- the register at the end is that of the digest
pub at-the-end : (p r : ℕ) (s g : List ℕ) (tag : ℕ) (esi : List ℕ) → p ≡ 3 → r ≡ register_at p s g (octets_of 4 tag ++ esi) → bit_xor r all_ones % 2 ^ 31 ≡ flow_digest_of (s ++ g) tag esi
unfolding register_at
at-the-end p r s g tag esi three e = rw (e, three) (flow-digest-steps s g tag esi)
