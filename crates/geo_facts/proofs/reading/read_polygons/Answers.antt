use Rattle.std.proofs.Common.{◌≡◌, ◌∷◌, ◌++◌, [], length, map, sym, ap, subst, ◌∙◌, arith, rules}
use Rattle.std.proofs.lemmas.List.{length_push, length-map}
use Rattle.calculus_table.specs.Calculus.{AreDistinct}
use Rattle.qsr_lex.specs.declared.TheConstants.{MAX_TEXT}
use Rattle.line_files.specs.FileText.{FileText, file_text}
use Rattle.geo_facts.specs.PolygonFile.{named_ring, names_of, IsLineOf, HavePolygons, HaveFault}
use Rattle.geo_facts.proofs.ReadLines.{AreWithin, file_text-within, rings-more, distinct-line, few-line, HavePolygons-line, HaveFault-line, within-first}
use Rattle.geo_facts.proofs.reading.read_polygons.Goals as goal

pub loop-line-init : goal.loop-line-init
loop-line-init c =
    let e : map named_ring c.new-polygons.result.items ≡ [] = ap (map named_ring) c.new-polygons.ensures.items in
    let text : FileText = file_text c.args.bytes.now in
    let lines : c.new-lines.result ≡ text = c.new-lines.ensures in
    record {
      told = λ all h. subst (λ t. HavePolygons t.end t.lines all []) lines (subst (HavePolygons c.new-lines.result.end c.new-lines.result.lines all) e h);
      fault = λ f h. subst (λ t. HaveFault t.end t.lines f []) lines (subst (HaveFault c.new-lines.result.end c.new-lines.result.lines f) e h);
      distinct = subst (λ rings. AreDistinct (names_of rings)) (sym e) (λ j k less below. absurd (omega arith));
      few = omega (arith, ap length c.new-polygons.ensures.items);
      within = subst (λ t. AreWithin MAX_TEXT t.lines) (sym lines) (file_text-within MAX_TEXT c.args.bytes.now c.requires);
    }

pub loop-line-preserved : goal.loop-line-preserved
loop-line-preserved c =
    let polygons = c.loop-line.polygons.items in
    let before = map named_ring polygons in
    let now = map named_ring c.push.new.self.items in
    let polygon = c.in_ok-polygon.polygon in
    let ring = named_ring polygon in
    let old = c.loop-line.lines in
    let new = c.next_line.new.self in
    let number = c.in-Some.line.number in
    let tokens = c.in-Some.line.tokens in
    let kept : c.push.new.self.items ≡ polygons ++ polygon ∷ [] = search rules in
    let more : now ≡ before ++ ring ∷ [] = ap (map named_ring) kept ∙ rings-more polygons polygon in
    let is : IsLineOf before number tokens ring = subst (λ ps. IsLineOf (map named_ring ps) number tokens ring) c.deref.ensures.value c.in_ok-polygon.ensures.ok in
    let few = few-line before number tokens ring is in
    record {
      told = λ all h. c.loop-line.invariant.told all (HavePolygons-line old.end new.end c.in-Some.ensures.end old.lines new.lines number tokens c.in-Some.ensures.lines before now ring more all is h);
      fault = λ f h. c.loop-line.invariant.fault f (HaveFault-line old.end new.end c.in-Some.ensures.end old.lines new.lines number tokens c.in-Some.ensures.lines before now ring more f is h);
      distinct = subst (λ rings. AreDistinct (names_of rings)) (sym more) (distinct-line before number tokens ring c.loop-line.invariant.distinct is);
      few = omega (arith, ap length kept, length_push polygons polygon, length-map polygons named_ring, few);
      within = (within-first MAX_TEXT old.lines new.lines number tokens c.in-Some.ensures.lines c.loop-line.invariant.within).1;
    }
