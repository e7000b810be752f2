-- Polygons have one scene.
use Rattle.std.proofs.Common.{◌≡◌, ℕ, List, sym, ap, ◌∙◌}
use Rattle.calculus_builtin.specs.Rcc8.{rcc8_calculus}
use Rattle.network_file.specs.NetworkText.{network_text}
use Rattle.geo_facts.specs.PolygonFile.{NamedRing}
use Rattle.geo_sound.proofs.DrawnNetworks.{scene-one}
use Rattle.qsr_answers.specs.Scenes.{IsSceneText}

pub draws_once : (polygons : List NamedRing) (t u : List ℕ) → IsSceneText polygons t → IsSceneText polygons u → t ≡ u
draws_once polygons t u h k =
    h.text_is ∙ ap (network_text rcc8_calculus) (scene-one polygons h.net k.net h.is_scene k.is_scene) ∙ sym k.text_is
