-- A forest of processes and lines, over any relation 'process i holds end e'.
--
-- A process hangs below at most one of the lines that it holds an end of, by the end `up`, and a line below at most
-- one process, which holds the end of side `top`. Ranks grow downwards. Nothing is said of ends that nobody holds.
use mathlib.Core.Path.{◌≡◌, ap, ◌∙◌}
use mathlib.Core.Logic.{◌⊎◌, inl, inr}
use Prim.Native.Nat.{ℕ, ◌+◌, ◌*◌, ◌<◌}
use native.Mathlib.Omega.{arith}
use Rattle.model.specs.Steps.{Endpoint, own_end, far_end}
use Rattle.model.proofs.Lists.{same?}
use Rattle.model.proofs.Patch.{patch, patch_same, patch_other}

-- where process i, which holds end e, is in the forest: below the line or above it
pub data Hangs (rank level : ℕ → ℕ) (up : ℕ → Endpoint) (top : ℕ → ℕ) (i : ℕ) (e : Endpoint) : Type 0 where
  below : level e.line < rank i → up i ≡ e → Hangs rank level up top i e
  above : rank i < level e.line → top e.line ≡ e.side → Hangs rank level up top i e

pub record Forest (H : ℕ → Endpoint → Type 0) : Type 0 where
  pub rank : ℕ → ℕ
  pub level : ℕ → ℕ
  pub up : ℕ → Endpoint
  pub top : ℕ → ℕ
  pub hangs : (i : ℕ) (e : Endpoint) → H i e → Hangs rank level up top i e

-- who holds less is in the same forest
pub forest_less : {H K : ℕ → Endpoint → Type 0} → Forest H → ((i : ℕ) (e : Endpoint) → K i e → H i e) → Forest K
forest_less f h = record { rank = f.rank; level = f.level; up = f.up; top = f.top; hangs = λ i e k. f.hangs i e (h i e k) }

-- nobody holds anything
pub forest_empty : {H : ℕ → Endpoint → Type 0} → ((i : ℕ) (e : Endpoint) → H i e → ⊥) → Forest H
forest_empty n = record { rank = λ i. 0; level = λ l. 0; up = λ i. own_end 0; top = λ l. 0; hangs = λ i e h. absurd (n i e h) }

-- Who holds what after process p started q on a new line and handed it those of its ends that are in G: the others
-- hold what they held, p what was not handed on, q what was, and each an end of the new line.
pub data Came (H : ℕ → Endpoint → Type 0) (p q line : ℕ) (G : Endpoint → Type 0) : ℕ → Endpoint → Type 0 where
  stayed : {i : ℕ} {e : Endpoint} → H i e → (i ≡ q → ⊥) → (i ≡ p → G e → ⊥) → Came H p q line G i e
  handed : {i : ℕ} {e : Endpoint} → i ≡ q → H p e → G e → Came H p q line G i e
  own : {i : ℕ} {e : Endpoint} → i ≡ p → e ≡ own_end line → Came H p q line G i e
  far : {i : ℕ} {e : Endpoint} → i ≡ q → e ≡ far_end line → Came H p q line G i e

module _ {H : ℕ → Endpoint → Type 0} (f : Forest H) (p q line : ℕ) (G : Endpoint → Type 0) (p≢q : p ≡ q → ⊥) (new : (i : ℕ) (e : Endpoint) → H i e → e.line ≡ line → ⊥)
    (rank level : ℕ → ℕ) (up : ℕ → Endpoint) (top : ℕ → ℕ)
    (rank_old : (i : ℕ) → (i ≡ q → ⊥) → rank i ≡ 4 * f.rank i + 3) (level_old : (l : ℕ) → (l ≡ line → ⊥) → level l ≡ 4 * f.level l + 3)
    (up_old : (i : ℕ) → (i ≡ q → ⊥) → (i ≡ p → ⊥) → up i ≡ f.up i) (top_old : (l : ℕ) → (l ≡ line → ⊥) → top l ≡ f.top l) where
  -- Where p keeps its way up, the new line hangs below p and q below the new line, above all that it was handed.
  start_below : rank q ≡ 4 * f.rank p + 5 → level line ≡ 4 * f.rank p + 4 → up q ≡ far_end line → up p ≡ f.up p → top line ≡ 0 →
      (G (f.up p) → ⊥) → (i : ℕ) (e : Endpoint) → Came H p q line G i e → Hangs rank level up top i e
  start_below rq ln uq us tl keeps i e (stayed h n k) = go (f.hangs i e h)
    where
      ri : rank i ≡ 4 * f.rank i + 3
      ri = rank_old i n

      le : level e.line ≡ 4 * f.level e.line + 3
      le = level_old e.line (new i e h)

      up_i : (i ≡ p) ⊎ (i ≡ p → ⊥) → up i ≡ f.up i
      up_i (inl ip) = rw ip us
      up_i (inr d) = up_old i n d

      go : Hangs f.rank f.level f.up f.top i e → Hangs rank level up top i e
      go (below z u) = below (omega (arith, ri, le)) (up_i (same? i p) ∙ u)
      go (above z t) = above (omega (arith, ri, le)) (top_old e.line (new i e h) ∙ t)
  start_below rq ln uq us tl keeps i e (handed iq h k) = go (f.hangs p e h)
    where
      ri : rank i ≡ 4 * f.rank p + 5
      ri = ap rank iq ∙ rq

      le : level e.line ≡ 4 * f.level e.line + 3
      le = level_old e.line (new p e h)

      go : Hangs f.rank f.level f.up f.top p e → Hangs rank level up top i e
      go (below z u) = absurd (keeps (rw u k))
      go (above z t) = above (omega (arith, ri, le)) (top_old e.line (new p e h) ∙ t)
  start_below rq ln uq us tl keeps i e (own ip eo) = rw (ip, eo) (above (omega (arith, rank_old p p≢q)) tl)
  start_below rq ln uq us tl keeps i e (far iq ef) = rw (iq, ef) (below (omega arith) uq)

  -- Where p hands on its way up, q takes its place, and p hangs below the new line and that below q.
  start_above : rank q ≡ 4 * f.rank p + 1 → level line ≡ 4 * f.rank p + 2 → up q ≡ f.up p → up p ≡ own_end line → top line ≡ 1 →
      G (f.up p) → (i : ℕ) (e : Endpoint) → Came H p q line G i e → Hangs rank level up top i e
  start_above rq ln uq us tl gone i e (stayed h n k) = go (f.hangs i e h)
    where
      ri : rank i ≡ 4 * f.rank i + 3
      ri = rank_old i n

      le : level e.line ≡ 4 * f.level e.line + 3
      le = level_old e.line (new i e h)

      up_i : (i ≡ p) ⊎ (i ≡ p → ⊥) → f.up i ≡ e → up i ≡ e
      up_i (inl ip) u = absurd (k ip (rw (← u, ip) gone))
      up_i (inr d) u = up_old i n d ∙ u

      go : Hangs f.rank f.level f.up f.top i e → Hangs rank level up top i e
      go (below z u) = below (omega (arith, ri, le)) (up_i (same? i p) u)
      go (above z t) = above (omega (arith, ri, le)) (top_old e.line (new i e h) ∙ t)
  start_above rq ln uq us tl gone i e (handed iq h k) = go (f.hangs p e h)
    where
      ri : rank i ≡ 4 * f.rank p + 1
      ri = ap rank iq ∙ rq

      le : level e.line ≡ 4 * f.level e.line + 3
      le = level_old e.line (new p e h)

      go : Hangs f.rank f.level f.up f.top p e → Hangs rank level up top i e
      go (below z u) = below (omega (arith, ri, le)) (ap up iq ∙ uq ∙ u)
      go (above z t) = above (omega (arith, ri, le)) (top_old e.line (new p e h) ∙ t)
  start_above rq ln uq us tl gone i e (own ip eo) = rw (ip, eo) (below (omega (arith, rank_old p p≢q)) us)
  start_above rq ln uq us tl gone i e (far iq ef) = rw (iq, ef) (above (omega arith) tl)

-- Starting a process keeps the forest. Whether p's way up is handed on decides where the new process goes.
pub forest_start : {H K : ℕ → Endpoint → Type 0} (f : Forest H) (p q line : ℕ) (G : Endpoint → Type 0) → (p ≡ q → ⊥) → ((i : ℕ) (e : Endpoint) → H i e → e.line ≡ line → ⊥) →
    G (f.up p) ⊎ (G (f.up p) → ⊥) → ((i : ℕ) (e : Endpoint) → K i e → Came H p q line G i e) → Forest K
forest_start {H} f p q line G p≢q new (inr keeps) came = record {
  rank = patch old q (4 * f.rank p + 5);
  level = patch lower line (4 * f.rank p + 4);
  up = patch f.up q (far_end line);
  top = patch f.top line 0;
  hangs = λ i e k. start_below f p q line G p≢q new (patch old q (4 * f.rank p + 5)) (patch lower line (4 * f.rank p + 4)) (patch f.up q (far_end line)) (patch f.top line 0)
      (λ j n. patch_other old q _ j n) (λ l n. patch_other lower line _ l n) (λ j n m. patch_other f.up q _ j n) (λ l n. patch_other f.top line _ l n)
      (patch_same old q _) (patch_same lower line _) (patch_same f.up q _) (patch_other f.up q _ p p≢q) (patch_same f.top line _) keeps i e (came i e k);
}
  where
    old : ℕ → ℕ
    old i = 4 * f.rank i + 3

    lower : ℕ → ℕ
    lower l = 4 * f.level l + 3
forest_start {H} f p q line G p≢q new (inl gone) came = record {
  rank = patch old q (4 * f.rank p + 1);
  level = patch lower line (4 * f.rank p + 2);
  up = ups;
  top = patch f.top line 1;
  hangs = λ i e k. start_above f p q line G p≢q new (patch old q (4 * f.rank p + 1)) (patch lower line (4 * f.rank p + 2)) ups (patch f.top line 1)
      (λ j n. patch_other old q _ j n) (λ l n. patch_other lower line _ l n) (λ j n m. patch_other (patch f.up p (own_end line)) q _ j n ∙ patch_other f.up p _ j m) (λ l n. patch_other f.top line _ l n)
      (patch_same old q _) (patch_same lower line _) (patch_same (patch f.up p (own_end line)) q _) (patch_other (patch f.up p (own_end line)) q _ p p≢q ∙ patch_same f.up p _) (patch_same f.top line _) gone i e (came i e k);
}
  where
    old : ℕ → ℕ
    old i = 4 * f.rank i + 3

    lower : ℕ → ℕ
    lower l = 4 * f.level l + 3

    ups : ℕ → Endpoint
    ups = patch (patch f.up p (own_end line)) q (f.up p)
