-- The number and the place with which each fault of an input is refused. Out of memory has none.
use Rattle.std.specs.Prelude.{ℕ, Option, None, Some}
use Rattle.calculus_table.specs.declared.calculus.TableFault.{TableFault}
use Rattle.calculus_table.specs.declared.calculus.TableFault.TheVariants as table
use Rattle.calculus_load.specs.declared.fault.LoadFault.{LoadFault}
use Rattle.calculus_load.specs.declared.fault.LoadFault.TheVariants as load
use Rattle.tract_classes.specs.declared.fault.ClassFault.{ClassFault}
use Rattle.tract_classes.specs.declared.fault.ClassFault.TheVariants as class
use Rattle.network_file.specs.declared.fault.FileFault.{FileFault}
use Rattle.network_file.specs.declared.fault.FileFault.TheVariants as file
use Rattle.cert_file.specs.declared.fault.CertFault.{CertFault}
use Rattle.cert_file.specs.declared.fault.CertFault.TheVariants as cert
use Rattle.poly_exact.specs.declared.rings.RingFault.{RingFault}
use Rattle.poly_exact.specs.declared.rings.RingFault.TheVariants as ring
use Rattle.geo_facts.specs.declared.fault.GeoFault.{GeoFault}
use Rattle.geo_facts.specs.declared.fault.GeoFault.TheVariants as geo
use Rattle.geo_facts.specs.declared.fault.FactFault.{FactFault}
use Rattle.geo_facts.specs.declared.fault.FactFault.TheVariants as fact
use Rattle.qsr_inputs.specs.declared.statuses.Place.{Place}

-- places of no number, and of one, two and three
abbrev pub no_place : Place
no_place = record { count = 0; a = 0; b = 0; c = 0 }

abbrev pub place_of_one : ℕ → Place
place_of_one a = record { count = 1; a = a; b = 0; c = 0 }

abbrev pub place_of_two : ℕ → ℕ → Place
place_of_two a b = record { count = 2; a = a; b = b; c = 0 }

abbrev pub place_of_three : ℕ → ℕ → ℕ → Place
place_of_three a b c = record { count = 3; a = a; b = b; c = c }

-- of a table of numbers: the position of a name, a base relation, or three of them
abbrev pub table_refusal : TableFault → Option (ℕ × Place)
table_refusal (table.NameTwice at) = Some (4, place_of_one at)
table_refusal (table.NotInvolution r) = Some (5, place_of_one r)
table_refusal (table.IdentityLaw r) = Some (6, place_of_one r)
table_refusal (table.ConverseLaw r s t) = Some (7, place_of_three r s t)
table_refusal (table.CycleLaw r s t) = Some (8, place_of_three r s t)
table_refusal table.Memory = None

-- of a converse that is missing, or of a composition
abbrev pub missing_place : ℕ → Option ℕ → Place
missing_place r None = place_of_one r
missing_place r (Some s) = place_of_two r s

-- of a table file: a line, or what is missing, or the fault of the table
abbrev pub load_refusal : LoadFault → Option (ℕ × Place)
load_refusal (load.Table fault) = table_refusal fault
load_refusal (load.Syntax line) = Some (9, place_of_one line)
load_refusal (load.Unknown line) = Some (10, place_of_one line)
load_refusal (load.Missing r s) = Some (11, missing_place r s)
load_refusal (load.Twice line) = Some (12, place_of_one line)
load_refusal (load.TooMany line) = Some (13, place_of_one line)
load_refusal load.Memory = None

-- of a class file: a line, a base relation, or two members and the number of the operation
abbrev pub class_refusal : ClassFault → Option (ℕ × Place)
class_refusal (class.Syntax line) = Some (21, place_of_one line)
class_refusal (class.LacksBase r) = Some (22, place_of_one r)
class_refusal (class.NotClosed a b op) = Some (23, place_of_three a b op)
class_refusal (class.TooMany line) = Some (24, place_of_one line)
class_refusal class.Memory = None

-- of a network file: a line, or the number of lines where the end line is missing
abbrev pub file_refusal : FileFault → Option (ℕ × Place)
file_refusal (file.Nodes line) = Some (14, place_of_one line)
file_refusal (file.NoNode line) = Some (15, place_of_one line)
file_refusal (file.SelfEdge line) = Some (16, place_of_one line)
file_refusal (file.NameTwice line) = Some (17, place_of_one line)
file_refusal (file.Syntax line) = Some (18, place_of_one line)
file_refusal (file.Unknown line) = Some (19, place_of_one line)
file_refusal (file.NoEnd lines) = Some (20, place_of_one lines)
file_refusal file.Memory = None

-- of a certificate: the bytes as a whole, or a key and an entry
abbrev pub cert_refusal : CertFault → Option (ℕ × Place)
cert_refusal cert.NotJson = Some (31, no_place)
cert_refusal (cert.Field field index) = Some (32, place_of_two field index)
cert_refusal cert.Memory = None

-- of the ring of a line: the line, and a point or two edges
abbrev pub ring_refusal : ℕ → RingFault → Option (ℕ × Place)
ring_refusal line ring.Few = Some (33, place_of_one line)
ring_refusal line (ring.Coordinate k) = Some (34, place_of_two line k)
ring_refusal line (ring.NotSimple e f) = Some (35, place_of_three line e f)
ring_refusal line ring.ManyVertices = Some (36, place_of_one line)
ring_refusal line ring.Memory = None

-- of a pattern: its first wrong byte
abbrev pub pattern_refusal : ℕ → ℕ × Place
pattern_refusal byte = (37, place_of_one byte)

-- of a polygon file: a line
abbrev pub geo_refusal : GeoFault → Option (ℕ × Place)
geo_refusal (geo.Syntax line) = Some (38, place_of_one line)
geo_refusal (geo.Hole line) = Some (39, place_of_one line)
geo_refusal (geo.Open line) = Some (40, place_of_one line)
geo_refusal (geo.NameTwice line) = Some (41, place_of_one line)
geo_refusal (geo.ManyPolygons line) = Some (42, place_of_one line)
geo_refusal (geo.Ring line fault) = ring_refusal line fault
geo_refusal geo.Memory = None

-- of polygons that are to draw a network: there are none
abbrev pub no_polygon_refusal : ℕ × Place
no_polygon_refusal = (52, no_place)

-- of polygons whose names are nodes': a polygon
abbrev pub fact_refusal : FactFault → Option (ℕ × Place)
fact_refusal (fact.NoNode at) = Some (43, place_of_one at)
fact_refusal fact.Memory = None
