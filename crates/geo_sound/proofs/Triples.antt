-- The base relations of three rings follow the rules, and so they compose.
use Rattle.std.proofs.Common.{ℕ, ◌<◌, List, true, false}
use Rattle.calculus_table.specs.Rel.{Has}
use Rattle.calculus_table.specs.Algebra.{entry_at}
use Rattle.calculus_builtin.specs.Rcc8.{rcc8_algebra}
use Rattle.poly_exact.specs.declared.points.Point.{Point}
use Rattle.geo_sound.specs.Rules.{Follow, FollowRules}
use Rattle.geo_sound.specs.Bases.{IsRegion, IsBaseOf}
use Rattle.geo_sound.specs.Laws.{RingsCompose}
use Rattle.geo_sound.proofs.Regions.{part-through, unmet-first, unmet-second}
use Rattle.geo_sound.proofs.Rules.{table_of_rules}
use Rattle.geo_sound.proofs.Views.{IsView, view-of, view-turned, view-below, has-apart, apart-has, has-far, far-has}
use Rattle.geo_sound.proofs.Views.{has-part, has-inner, part-has, inner-has}

follow-views : (us vs ws : List Point) (r s t : ℕ) → IsRegion us → IsRegion vs → IsRegion ws → IsView us vs r →
    IsView vs ws s → IsView us ws t → Follow r s t
follow-views us vs ws r s t x y z p q u = record {
  part = λ hr hs. part-has us ws t u x z (part-through us vs ws x.simple y.simple z.simple (has-part us vs r p hr) false
      (has-part vs ws s q hs));
  apart_part = λ hr hs. apart-has us ws t u (part-through us vs ws x.simple y.simple z.simple
      (has-part us vs r p hr) true (has-apart vs ws s q hs));
  inner_second = λ hr hs.
      let part = has-part us vs r p hr in
      let i = has-inner vs ws s q hs in
      inner-has us ws t u x z (record {
        part = part-through us vs ws x.simple y.simple z.simple part false i.part;
        not_whole = λ whole. i.not_whole (part-through ws us vs z.simple x.simple y.simple whole false part);
        unmet = unmet-second us vs ws x.simple y.simple z.simple part false i.part i.unmet;
      });
  inner_first = λ hr hs.
      let i = has-inner us vs r p hr in
      let part = has-part vs ws s q hs in
      inner-has us ws t u x z (record {
        part = part-through us vs ws x.simple y.simple z.simple i.part false part;
        not_whole = λ whole. i.not_whole (part-through vs ws us y.simple z.simple x.simple part false whole);
        unmet = unmet-first us vs ws x.simple y.simple z.simple i.part false part i.unmet;
      });
  far_second = λ hr hs.
      let part = has-part us vs r p hr in
      let f = has-far vs ws s q hs in
      far-has us ws t u (record {
        none = part-through us vs ws x.simple y.simple z.simple part true f.none;
        unmet = unmet-second us vs ws x.simple y.simple z.simple part true f.none f.unmet;
      });
  far_first = λ hr hs.
      let i = has-inner us vs r p hr in
      let none = has-apart vs ws s q hs in
      far-has us ws t u (record {
        none = part-through us vs ws x.simple y.simple z.simple i.part true none;
        unmet = unmet-first us vs ws x.simple y.simple z.simple i.part true none i.unmet;
      });
}

follow-rules : (us vs ws : List Point) (r s t : ℕ) → IsRegion us → IsRegion vs → IsRegion ws → IsView us vs r →
    IsView vs ws s → IsView us ws t → FollowRules r s t
follow-rules us vs ws r s t x y z p q u =
    let p' = view-turned us vs r p in
    let q' = view-turned vs ws s q in
    let u' = view-turned us ws t u in
    record {
      xyz = follow-views us vs ws _ _ _ x y z p q u;
      xzy = follow-views us ws vs _ _ _ x z y u q' p;
      yxz = follow-views vs us ws _ _ _ y x z p' u q;
      yzx = follow-views vs ws us _ _ _ y z x q u' p';
      zxy = follow-views ws us vs _ _ _ z x y u' p q';
      zyx = follow-views ws vs us _ _ _ z y x q' p' u';
    }

views-compose : (us vs ws : List Point) (r s t : ℕ) → IsRegion us → IsRegion vs → IsRegion ws → IsView us vs r →
    IsView vs ws s → IsView us ws t → Has (entry_at rcc8_algebra r s) t
views-compose us vs ws r s t x y z p q u =
    (table_of_rules r s t (view-below us vs r p) (view-below vs ws s q) (view-below us ws t u)).1
    (follow-rules us vs ws r s t x y z p q u)

pub bases-compose : (us vs ws : List Point) (r s t : ℕ) → IsBaseOf us vs r → IsBaseOf vs ws s → IsBaseOf us ws t →
    Has (entry_at rcc8_algebra r s) t
bases-compose us vs ws r s t p q u =
    views-compose us vs ws r s t p.first p.second q.second (view-of us vs r p.relation) (view-of vs ws s q.relation)
    (view-of us ws t u.relation)

pub base-below : (vs ws : List Point) (r : ℕ) → IsBaseOf vs ws r → r < 8
base-below vs ws r h = view-below vs ws r (view-of vs ws r h.relation)

pub rings_compose : RingsCompose
rings_compose us vs ws r s t x y z p q u =
    views-compose us vs ws r s t x y z (view-of us vs r p) (view-of vs ws s q) (view-of us ws t u)
