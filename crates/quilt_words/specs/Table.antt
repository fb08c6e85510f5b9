-- The commands: how their words are spelled, what arguments follow them, what command they make, and what it has.
use Rattle.std.specs.Prelude.{ℕ, ◌<◌, ◌≤◌, ◌^◌, ◌-◌, ◌==◌, Bool, false, List, [], ◌∷◌, ◌++◌, Option, Some, None, IfSome, if◌then◌else◌, codes, ℤ, flat_map}
use Rattle.std.specs.List.{range_with_len}
use Rattle.quilt_types.specs.declared.plane.Pixel.{Pixel}
use Rattle.quilt_types.specs.declared.plane.Window.{Window}
use Rattle.quilt_types.specs.declared.plane.Colour.{Colour}
use Rattle.quilt_types.specs.declared.plane.Point.{Point}
use Rattle.quilt_types.specs.declared.plane.Corner.{Corner}
use Rattle.quilt_types.specs.Layers.{colours}
use Rattle.quilt_words.specs.declared.command.Command.{Command}
use Rattle.quilt_words.specs.declared.command.Command.TheVariants as commands
use Rattle.quilt_words.specs.declared.command.Word.{Word}
use Rattle.quilt_words.specs.declared.command.Word.TheVariants as words
use Rattle.quilt_words.specs.Fitting.{IsName, IsColour, IsWithin, IsPixelOf16, IsWindowOf16, IsSegOf16, IsShift, IsRows, ArePoints, AreRings, ArePairs}

-- ---- how words are spelled

-- the bytes of a command's word
abbrev pub spelling : Word → List ℕ
spelling words.Region = codes "region"
spelling words.Lines = codes "lines"
spelling words.Drop = codes "drop"
spelling words.Copy = codes "copy"
spelling words.Layers = codes "layers"
spelling words.Blocks = codes "blocks"
spelling words.Records = codes "records"
spelling words.Set = codes "set"
spelling words.Rect = codes "rect"
spelling words.Raster = codes "raster"
spelling words.At = codes "at"
spelling words.Show = codes "show"
spelling words.Leaves = codes "leaves"
spelling words.Union = codes "union"
spelling words.Inter = codes "inter"
spelling words.Diff = codes "diff"
spelling words.Window = codes "window"
spelling words.Shift = codes "shift"
spelling words.Buffer = codes "buffer"
spelling words.Area = codes "area"
spelling words.Perimeter = codes "perimeter"
spelling words.Put = codes "put"
spelling words.Del = codes "del"
spelling words.Scatter = codes "scatter"
spelling words.Find = codes "find"
spelling words.Within = codes "within"
spelling words.Line = codes "line"
spelling words.Unline = codes "unline"
spelling words.Cross = codes "cross"
spelling words.Clip = codes "clip"
spelling words.Nearest = codes "nearest"
spelling words.Over = codes "over"
spelling words.Edition = codes "edition"
spelling words.Publish = codes "publish"
spelling words.Upgrade = codes "upgrade"
spelling words.Revert = codes "revert"
spelling words.Polygon = codes "polygon"
spelling words.Rank = codes "rank"
spelling words.Crossings = codes "crossings"
spelling words.Recolour = codes "recolour"
spelling words.Points = codes "points"

-- the bytes begin with this one
abbrev pub first_is : ℕ → List ℕ → Bool
first_is c [] = false
first_is c (b ∷ bs) = b == c

-- the words of all commands: those of the table in its order, and then the two whose arguments depend on their number
abbrev pub all_words : List Word
all_words =
    words.Region ∷ words.Lines ∷ words.Drop ∷ words.Copy ∷ words.Layers ∷ words.Blocks ∷ words.Records ∷ words.Set ∷ words.Rect ∷
    words.Raster ∷ words.At ∷ words.Show ∷ words.Leaves ∷ words.Union ∷ words.Inter ∷ words.Diff ∷ words.Window ∷ words.Shift ∷
    words.Buffer ∷ words.Area ∷ words.Perimeter ∷ words.Put ∷ words.Del ∷ words.Scatter ∷ words.Find ∷ words.Within ∷ words.Line ∷
    words.Unline ∷ words.Cross ∷ words.Clip ∷ words.Nearest ∷ words.Over ∷ words.Edition ∷ words.Publish ∷ words.Upgrade ∷ words.Revert ∷
    words.Polygon ∷ words.Rank ∷ words.Crossings ∷ words.Recolour ∷ words.Points ∷ []

-- ---- what their arguments make

-- what an argument may be
pub data Argument : Type 0 where
  A_name : Argument
  A_number : (low high : ℕ) → Argument
  A_signed : Argument

-- what an argument is
pub data Value : Type 0 where
  Called : (bytes : List ℕ) → Value
  Number : (n : ℕ) → Value
  Signed : (z : ℤ) → Value

-- a coordinate of a pixel or of a window's corner, from 0 to 65535; also a distance
abbrev pub coordinate : Argument
coordinate = A_number 0 65535

-- the width or height of a window in pixels, from 1 to 65535
abbrev pub extent : Argument
extent = A_number 1 65535

-- a colour of the format
abbrev pub colour : ℕ → Argument
colour f = A_number 0 (colours f - 1)

-- a label or an id
abbrev pub label : Argument
label = A_number 0 4294967295

-- the two arguments that give a pixel: x and y
abbrev pub pixel : List Argument
pixel = coordinate ∷ coordinate ∷ []

-- the four arguments that give a window: x and y of its least corner, width and height
abbrev pub window : List Argument
window = coordinate ∷ coordinate ∷ extent ∷ extent ∷ []

-- the pixel at x and y
abbrev pub at : ℕ → ℕ → Pixel
at x y = record { x = x; y = y }

-- the window whose least corner is at x and y, w pixels wide and h high
abbrev pub over : ℕ → ℕ → ℕ → ℕ → Window
over x y w h = record { x = x; y = y; w = w; h = h }

-- what the further lines of an item spell
pub record Further : Type 0 where
  pub rows : Option (List ℕ)
  pub points : Option (List Point)
  pub rings : Option (List (List Corner))

-- a command's word, its arguments, and the command that they make with the further lines
pub record Entry : Type 0 where
  pub word : List ℕ
  pub arguments : List Argument
  pub command : Further → List Value → Option Command

-- `region A c`: makes the region layer A whose pixels all have colour c
abbrev pub region_command : Further → List Value → Option Command
region_command more (Called a ∷ Number c ∷ []) = Some (commands.Region a (record { 0 = c }))
region_command more vs = None

-- `points P` or `points P b`: makes an empty point layer with at most b points in a block, 1 where b is left out
abbrev pub points_command : Further → List Value → Option Command
points_command more (Called p ∷ []) = Some (commands.Points p 1)
points_command more (Called p ∷ Number b ∷ []) = Some (commands.Points p b)
points_command more vs = None

-- `lines L t`: makes an empty line layer whose blocks are cut where more than t segments meet them
abbrev pub lines_command : Further → List Value → Option Command
lines_command more (Called l ∷ Number t ∷ []) = Some (commands.Lines l t)
lines_command more vs = None

-- `drop A`: takes the layer away
abbrev pub drop_command : Further → List Value → Option Command
drop_command more (Called a ∷ []) = Some (commands.Drop a)
drop_command more vs = None

-- `copy A B`: makes the layer B that is as A is
abbrev pub copy_command : Further → List Value → Option Command
copy_command more (Called a ∷ Called b ∷ []) = Some (commands.Copy a b)
copy_command more vs = None

-- `layers`: asks which layers there are
abbrev pub layers_command : Further → List Value → Option Command
layers_command more ([]) = Some (commands.Layers)
layers_command more vs = None

-- `blocks A`: asks for the number of the layer's blocks of each side
abbrev pub blocks_command : Further → List Value → Option Command
blocks_command more (Called a ∷ []) = Some (commands.Blocks a)
blocks_command more vs = None

-- `records`: asks how many records the map has, and how many it may have
abbrev pub records_command : Further → List Value → Option Command
records_command more ([]) = Some (commands.Records)
records_command more vs = None

-- `set A x y c`: gives one pixel the colour c
abbrev pub set_command : Further → List Value → Option Command
set_command more (Called a ∷ Number x ∷ Number y ∷ Number c ∷ []) = Some (commands.Set a (at x y) (record { 0 = c }))
set_command more vs = None

-- `rect A x y w h c`: gives the pixels of a window the colour c
abbrev pub rect_command : Further → List Value → Option Command
rect_command more (Called a ∷ Number x ∷ Number y ∷ Number w ∷ Number h ∷ Number c ∷ []) = Some (commands.Rect a (over x y w h) (record { 0 = c }))
rect_command more vs = None

-- `raster A`: gives the layer the colours of the further lines, one line for each row of the square
abbrev pub raster_command : Further → List Value → Option Command
raster_command more (Called a ∷ []) = Some (commands.Raster a more.rows)
raster_command more vs = None

-- `at A x y`: asks for the colour of a pixel
abbrev pub at_command : Further → List Value → Option Command
at_command more (Called a ∷ Number x ∷ Number y ∷ []) = Some (commands.At a (at x y))
at_command more vs = None

-- `show A x y w h`: asks for the colours of a window's pixels, row by row
abbrev pub show_command : Further → List Value → Option Command
show_command more (Called a ∷ Number x ∷ Number y ∷ Number w ∷ Number h ∷ []) = Some (commands.Show a (over x y w h))
show_command more vs = None

-- `leaves A`: asks for the maximal blocks of one colour
abbrev pub leaves_command : Further → List Value → Option Command
leaves_command more (Called a ∷ []) = Some (commands.Leaves a)
leaves_command more vs = None

-- `union A B C`: makes the layer C with the colour of A where that is not 0, else that of B
abbrev pub union_command : Further → List Value → Option Command
union_command more (Called a ∷ Called b ∷ Called c ∷ []) = Some (commands.Union a b c)
union_command more vs = None

-- `inter A B C`: makes the layer C with the colour of A where that of B is not 0, else 0
abbrev pub inter_command : Further → List Value → Option Command
inter_command more (Called a ∷ Called b ∷ Called c ∷ []) = Some (commands.Inter a b c)
inter_command more vs = None

-- `diff A B C`: makes the layer C with the colour of A where that of B is 0, else 0
abbrev pub diff_command : Further → List Value → Option Command
diff_command more (Called a ∷ Called b ∷ Called c ∷ []) = Some (commands.Diff a b c)
diff_command more vs = None

-- `window A x y w h C`: makes the layer C with the colour of A inside of the window, else 0
abbrev pub window_command : Further → List Value → Option Command
window_command more (Called a ∷ Number x ∷ Number y ∷ Number w ∷ Number h ∷ Called c ∷ []) = Some (commands.Window a (over x y w h) c)
window_command more vs = None

-- `shift A dx dy C`: makes the layer C with the colour of A at (x - dx, y - dy), else 0
abbrev pub shift_command : Further → List Value → Option Command
shift_command more (Called a ∷ Signed dx ∷ Signed dy ∷ Called c ∷ []) = Some (commands.Shift a dx dy c)
shift_command more vs = None

-- `buffer A r C`: makes the layer C with 1 where a pixel of A that is not 0 is at most r away in each of x and y
abbrev pub buffer_command : Further → List Value → Option Command
buffer_command more (Called a ∷ Number r ∷ Called c ∷ []) = Some (commands.Buffer a r c)
buffer_command more vs = None

-- `area A c`: asks for the number of pixels of colour c
abbrev pub area_command : Further → List Value → Option Command
area_command more (Called a ∷ Number c ∷ []) = Some (commands.Area a (record { 0 = c }))
area_command more vs = None

-- `perimeter A c`: asks for the number of unit edges on the boundary of colour c
abbrev pub perimeter_command : Further → List Value → Option Command
perimeter_command more (Called a ∷ Number c ∷ []) = Some (commands.Perimeter a (record { 0 = c }))
perimeter_command more vs = None

-- `put P x y label`: puts a point with this label
abbrev pub put_command : Further → List Value → Option Command
put_command more (Called p ∷ Number x ∷ Number y ∷ Number l ∷ []) = Some (commands.Put p (at x y) l)
put_command more vs = None

-- `del P x y`: takes the point at the pixel out
abbrev pub del_command : Further → List Value → Option Command
del_command more (Called p ∷ Number x ∷ Number y ∷ []) = Some (commands.Del p (at x y))
del_command more vs = None

-- `scatter P k`: puts the points of the k further lines
abbrev pub scatter_command : Further → List Value → Option Command
scatter_command more (Called p ∷ Number k ∷ []) = Some (commands.Scatter p more.points)
scatter_command more vs = None

-- `find P x y`: asks for the label of the point at the pixel
abbrev pub find_command : Further → List Value → Option Command
find_command more (Called p ∷ Number x ∷ Number y ∷ []) = Some (commands.Find p (at x y))
find_command more vs = None

-- `within P x y w h`: asks for the points in a window
abbrev pub within_command : Further → List Value → Option Command
within_command more (Called p ∷ Number x ∷ Number y ∷ Number w ∷ Number h ∷ []) = Some (commands.Within p (over x y w h))
within_command more vs = None

-- `line L id x1 y1 x2 y2`: puts the segment from (x1, y1) to (x2, y2) under the id
abbrev pub line_command : Further → List Value → Option Command
line_command more (Called l ∷ Number i ∷ Number x ∷ Number y ∷ Number u ∷ Number v ∷ []) = Some (commands.Line l i (record { x1 = x; y1 = y; x2 = u; y2 = v }))
line_command more vs = None

-- `unline L id`: takes the segment of this id out
abbrev pub unline_command : Further → List Value → Option Command
unline_command more (Called l ∷ Number i ∷ []) = Some (commands.Unline l i)
unline_command more vs = None

-- `cross L x y w h`: asks for the segments that meet a closed window
abbrev pub cross_command : Further → List Value → Option Command
cross_command more (Called l ∷ Number x ∷ Number y ∷ Number w ∷ Number h ∷ []) = Some (commands.Cross l (over x y w h))
cross_command more vs = None

-- `clip L x y w h`: asks for the parts of segments that lie in a closed window
abbrev pub clip_command : Further → List Value → Option Command
clip_command more (Called l ∷ Number x ∷ Number y ∷ Number w ∷ Number h ∷ []) = Some (commands.Clip l (over x y w h))
clip_command more vs = None

-- `nearest L x y`: asks for the segment nearest to the pixel
abbrev pub nearest_command : Further → List Value → Option Command
nearest_command more (Called l ∷ Number x ∷ Number y ∷ []) = Some (commands.Nearest l (at x y))
nearest_command more vs = None

-- `over L A`: asks for the segments that meet a pixel of nonzero colour of the region layer A
abbrev pub over_command : Further → List Value → Option Command
over_command more (Called l ∷ Called a ∷ []) = Some (commands.Over l a)
over_command more vs = None

-- `edition`: asks for the number of the last edition
abbrev pub edition_command : Further → List Value → Option Command
edition_command more ([]) = Some (commands.Edition)
edition_command more vs = None

-- `publish`: makes the work the next edition
abbrev pub publish_command : Further → List Value → Option Command
publish_command more ([]) = Some (commands.Publish)
publish_command more vs = None

-- `upgrade`: makes the work the next edition, in format 2
abbrev pub upgrade_command : Further → List Value → Option Command
upgrade_command more ([]) = Some (commands.Upgrade)
upgrade_command more vs = None

-- `polygon C c k`: makes the layer C with colour c inside of the rings of the k further lines, and 0 elsewhere
abbrev pub polygon_command : Further → List Value → Option Command
polygon_command more (Called a ∷ Number c ∷ Number k ∷ []) = Some (commands.Polygon a (record { 0 = c }) more.rings)
polygon_command more vs = None

-- `rank L x y k`: asks for the k segments nearest to the pixel, in order
abbrev pub rank_command : Further → List Value → Option Command
rank_command more (Called l ∷ Number x ∷ Number y ∷ Number k ∷ []) = Some (commands.Rank l (at x y) k)
rank_command more vs = None

-- `crossings L M`: asks for the pairs of a segment of L and one of M that share a point
abbrev pub crossings_command : Further → List Value → Option Command
crossings_command more (Called l ∷ Called m ∷ []) = Some (commands.Crossings l m)
crossings_command more vs = None

-- `revert`: makes the work the last edition again
abbrev pub revert_command : Further → List Value → Option Command
revert_command more ([]) = Some (commands.Revert)
revert_command more vs = None

-- all commands but `recolour` and `points`
abbrev pub table : ℕ → List Entry
table f =
    record { word = codes "region"; arguments = A_name ∷ colour f ∷ []; command = region_command }
    ∷ record { word = codes "lines"; arguments = A_name ∷ A_number 1 32 ∷ []; command = lines_command }
    ∷ record { word = codes "drop"; arguments = A_name ∷ []; command = drop_command }
    ∷ record { word = codes "copy"; arguments = A_name ∷ A_name ∷ []; command = copy_command }
    ∷ record { word = codes "layers"; arguments = []; command = layers_command }
    ∷ record { word = codes "blocks"; arguments = A_name ∷ []; command = blocks_command }
    ∷ record { word = codes "records"; arguments = []; command = records_command }
    ∷ record { word = codes "set"; arguments = A_name ∷ pixel ++ colour f ∷ []; command = set_command }
    ∷ record { word = codes "rect"; arguments = A_name ∷ window ++ colour f ∷ []; command = rect_command }
    ∷ record { word = codes "raster"; arguments = A_name ∷ []; command = raster_command }
    ∷ record { word = codes "at"; arguments = A_name ∷ pixel; command = at_command }
    ∷ record { word = codes "show"; arguments = A_name ∷ window; command = show_command }
    ∷ record { word = codes "leaves"; arguments = A_name ∷ []; command = leaves_command }
    ∷ record { word = codes "union"; arguments = A_name ∷ A_name ∷ A_name ∷ []; command = union_command }
    ∷ record { word = codes "inter"; arguments = A_name ∷ A_name ∷ A_name ∷ []; command = inter_command }
    ∷ record { word = codes "diff"; arguments = A_name ∷ A_name ∷ A_name ∷ []; command = diff_command }
    ∷ record { word = codes "window"; arguments = A_name ∷ window ++ A_name ∷ []; command = window_command }
    ∷ record { word = codes "shift"; arguments = A_name ∷ A_signed ∷ A_signed ∷ A_name ∷ []; command = shift_command }
    ∷ record { word = codes "buffer"; arguments = A_name ∷ coordinate ∷ A_name ∷ []; command = buffer_command }
    ∷ record { word = codes "area"; arguments = A_name ∷ colour f ∷ []; command = area_command }
    ∷ record { word = codes "perimeter"; arguments = A_name ∷ colour f ∷ []; command = perimeter_command }
    ∷ record { word = codes "put"; arguments = A_name ∷ pixel ++ label ∷ []; command = put_command }
    ∷ record { word = codes "del"; arguments = A_name ∷ pixel; command = del_command }
    ∷ record { word = codes "scatter"; arguments = A_name ∷ A_number 1 100000 ∷ []; command = scatter_command }
    ∷ record { word = codes "find"; arguments = A_name ∷ pixel; command = find_command }
    ∷ record { word = codes "within"; arguments = A_name ∷ window; command = within_command }
    ∷ record { word = codes "line"; arguments = A_name ∷ label ∷ pixel ++ pixel; command = line_command }
    ∷ record { word = codes "unline"; arguments = A_name ∷ label ∷ []; command = unline_command }
    ∷ record { word = codes "cross"; arguments = A_name ∷ window; command = cross_command }
    ∷ record { word = codes "clip"; arguments = A_name ∷ window; command = clip_command }
    ∷ record { word = codes "nearest"; arguments = A_name ∷ pixel; command = nearest_command }
    ∷ record { word = codes "over"; arguments = A_name ∷ A_name ∷ []; command = over_command }
    ∷ record { word = codes "edition"; arguments = []; command = edition_command }
    ∷ record { word = codes "publish"; arguments = []; command = publish_command }
    ∷ record { word = codes "upgrade"; arguments = []; command = upgrade_command }
    ∷ record { word = codes "revert"; arguments = []; command = revert_command }
    ∷ record { word = codes "polygon"; arguments = A_name ∷ colour f ∷ A_number 1 1000 ∷ []; command = polygon_command }
    ∷ record { word = codes "rank"; arguments = A_name ∷ pixel ++ A_number 1 100000 ∷ []; command = rank_command }
    ∷ record { word = codes "crossings"; arguments = A_name ∷ A_name ∷ []; command = crossings_command }
    ∷ []

-- a `recolour` has 1 to 16 pairs
abbrev pub recolour_arguments : ℕ → ℕ → List Argument
recolour_arguments f pairs = A_name ∷ A_name ∷ flat_map (λ i. colour f ∷ colour f ∷ []) (range_with_len 0 pairs)

-- the numbers taken two and two as pairs of an old and a new colour; the list ends before the first two that are no numbers
abbrev pub pairs_of : List Value → List (Colour × Colour)
pairs_of (Number o ∷ Number c ∷ vs) = (record { 0 = o }, record { 0 = c }) ∷ pairs_of vs
pairs_of vs = []

-- `recolour A C o n ..`: makes the layer C in which each colour o of A is n, by the first pair that has it
abbrev pub recolour_command : Further → List Value → Option Command
recolour_command more (Called a ∷ Called c ∷ vs) = Some (commands.Recolour a c (pairs_of vs))
recolour_command more vs = None

-- the row of `recolour` with this number of pairs, in a format
abbrev pub recolour_entry : ℕ → ℕ → Entry
recolour_entry f pairs = record { word = codes "recolour"; arguments = recolour_arguments f pairs; command = recolour_command }

-- how many points a block may hold can be left out
abbrev pub points_arguments : ℕ → List Argument
points_arguments count = A_name ∷ (if count == 1 then [] else A_number 1 16 ∷ [])

-- the row of `points` where this number of words follow it
abbrev pub points_entry : ℕ → Entry
points_entry count = record { word = codes "points"; arguments = points_arguments count; command = points_command }

-- ---- what a command has

-- what a command has that an item spells in a format at a level
abbrev pub IsFitting : ℕ → ℕ → Command → Type 0
IsFitting f n (commands.Region a c) = IsName a × IsColour f c
IsFitting f n (commands.Points p bucket) = IsName p × IsWithin 1 16 bucket
IsFitting f n (commands.Lines l t) = IsName l × IsWithin 1 32 t
IsFitting f n (commands.Drop a) = IsName a
IsFitting f n (commands.Copy a b) = IsName a × IsName b
IsFitting f n commands.Layers = Unit {0}
IsFitting f n (commands.Blocks a) = IsName a
IsFitting f n commands.Records = Unit {0}
IsFitting f n (commands.Set a at c) = IsName a × IsPixelOf16 at × IsColour f c
IsFitting f n (commands.Rect a w c) = IsName a × IsWindowOf16 w × IsColour f c
IsFitting f n (commands.Raster a rows) = IsName a × IfSome rows (IsRows f n)
IsFitting f n (commands.At a at) = IsName a × IsPixelOf16 at
IsFitting f n (commands.Show a w) = IsName a × IsWindowOf16 w
IsFitting f n (commands.Leaves a) = IsName a
IsFitting f n (commands.Union a b c) = IsName a × IsName b × IsName c
IsFitting f n (commands.Inter a b c) = IsName a × IsName b × IsName c
IsFitting f n (commands.Diff a b c) = IsName a × IsName b × IsName c
IsFitting f n (commands.Recolour a c pairs) = IsName a × IsName c × ArePairs f pairs
IsFitting f n (commands.Window a w c) = IsName a × IsWindowOf16 w × IsName c
IsFitting f n (commands.Shift a dx dy c) = IsName a × IsShift dx × IsShift dy × IsName c
IsFitting f n (commands.Buffer a r c) = IsName a × (r ≤ 65535) × IsName c
IsFitting f n (commands.Area a c) = IsName a × IsColour f c
IsFitting f n (commands.Perimeter a c) = IsName a × IsColour f c
IsFitting f n (commands.Put p at label) = IsName p × IsPixelOf16 at × (label < 2 ^ 32)
IsFitting f n (commands.Del p at) = IsName p × IsPixelOf16 at
IsFitting f n (commands.Scatter p points) = IsName p × IfSome points ArePoints
IsFitting f n (commands.Find p at) = IsName p × IsPixelOf16 at
IsFitting f n (commands.Within p w) = IsName p × IsWindowOf16 w
IsFitting f n (commands.Line l id seg) = IsName l × (id < 2 ^ 32) × IsSegOf16 seg
IsFitting f n (commands.Unline l id) = IsName l × (id < 2 ^ 32)
IsFitting f n (commands.Cross l w) = IsName l × IsWindowOf16 w
IsFitting f n (commands.Clip l w) = IsName l × IsWindowOf16 w
IsFitting f n (commands.Nearest l at) = IsName l × IsPixelOf16 at
IsFitting f n (commands.Over l a) = IsName l × IsName a
IsFitting f n commands.Edition = Unit {0}
IsFitting f n commands.Publish = Unit {0}
IsFitting f n commands.Upgrade = Unit {0}
IsFitting f n commands.Revert = Unit {0}
IsFitting f n (commands.Polygon c colour rings) = IsName c × IsColour f colour × IfSome rings AreRings
IsFitting f n (commands.Rank l at k) = IsName l × IsPixelOf16 at × IsWithin 1 100000 k
IsFitting f n (commands.Crossings l m) = IsName l × IsName m

-- what the further lines of an item spell, where they are there and well formed
pub record FurtherFits (f n : ℕ) (more : Further) : Type 0 where
  pub rows : IfSome more.rows (IsRows f n)
  pub points : IfSome more.points ArePoints
  pub rings : IfSome more.rings AreRings
