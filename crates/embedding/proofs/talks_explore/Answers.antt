use Rattle.std.proofs.Common.{◌≡◌, ℕ, min, length, take, sym, ap, ◌∙◌, subst, arith}
use Rattle.engine.specs.Shown.{overlay}
use Rattle.exploring.specs.Circles.{CircleIs}
use Rattle.exploring.specs.Exploring.{ExplorePost}
use Rattle.embedding.specs.Rows.{rows_words}
use Rattle.embedding.proofs.talks_explore.Goals as goal

pub returns : goal.returns
returns c =
    let table = c.explore.new.left in
    let m = c.min.ensures in
    let e : c.min.result ≡ min c.coded_jam-code.result.2 200 = omega arith in
    record {
      before = _;
      table = table;
      post = subst (ExplorePost c.args.program.now c.args.most c.args.turns c.args.shown.now c.explore.new.shown _ table (length c.args.work.now)) (sym c.coded_jam-code.ensures) c.explore.ensures;
      told = c.put_rows.ensures ∙ ap (λ (n : ℕ). overlay (rows_words (take n table)) c.args.left.now) e;
      on_circle = c.circle.result;
      circle_is = c.number_word.ensures;
      circles = subst (λ (n : ℕ). CircleIs (take n table) c.circle.result) e c.circle.ensures;
    }
