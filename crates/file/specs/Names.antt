-- The registers that the rules of 01 and 02 name, by their numbers in the table (`Registers`).
-- Assumes nothing.
use Rattle.std.specs.Prelude.{ℕ}

abbrev pub MISC : ℕ
MISC = 0

abbrev pub SRX : ℕ
SRX = 1

abbrev pub CRX : ℕ
CRX = 2

abbrev pub GRX : ℕ
GRX = 3

abbrev pub ARX : ℕ
ARX = 4

abbrev pub pixel_mask : ℕ
pixel_mask = 5

abbrev pub PCI04 : ℕ
PCI04 = 6

abbrev pub SR0 : ℕ
SR0 = 7

abbrev pub SR0E : ℕ
SR0E = 18

abbrev pub SR1E : ℕ
SR1E = 24

abbrev pub CR0 : ℕ
CR0 = 25

abbrev pub CR1 : ℕ
CR1 = 26

abbrev pub CR2 : ℕ
CR2 = 27

abbrev pub CR3 : ℕ
CR3 = 28

abbrev pub CR4 : ℕ
CR4 = 29

abbrev pub CR5 : ℕ
CR5 = 30

abbrev pub CR6 : ℕ
CR6 = 31

abbrev pub CR7 : ℕ
CR7 = 32

abbrev pub CR9 : ℕ
CR9 = 34

abbrev pub CRC : ℕ
CRC = 37

abbrev pub CRD : ℕ
CRD = 38

abbrev pub CR10 : ℕ
CR10 = 41

abbrev pub CR11 : ℕ
CR11 = 42

abbrev pub CR12 : ℕ
CR12 = 43

abbrev pub CR13 : ℕ
CR13 = 44

abbrev pub CR15 : ℕ
CR15 = 46

abbrev pub CR16 : ℕ
CR16 = 47

abbrev pub CR18 : ℕ
CR18 = 49

abbrev pub CR1A : ℕ
CR1A = 51

abbrev pub CR1B : ℕ
CR1B = 52

abbrev pub CR1D : ℕ
CR1D = 53

abbrev pub CR1E : ℕ
CR1E = 54

abbrev pub GR0 : ℕ
GR0 = 55

abbrev pub AR0 : ℕ
AR0 = 64

abbrev pub B0 : ℕ
B0 = 85

abbrev pub CC : ℕ
CC = 89

abbrev pub CE : ℕ
CE = 90

abbrev pub D0 : ℕ
D0 = 91

abbrev pub D2 : ℕ
D2 = 92

abbrev pub D4 : ℕ
D4 = 93

abbrev pub D5 : ℕ
D5 = 94

abbrev pub E0 : ℕ
E0 = 95

abbrev pub E2 : ℕ
E2 = 96

abbrev pub E4 : ℕ
E4 = 97

abbrev pub E6 : ℕ
E6 = 98

abbrev pub E8 : ℕ
E8 = 99

-- 02, 6/13: the V-Port's first register, 100h, and its capture registers, 108h to 10Eh. 10Ch is Capture Y Start on the 5464 and V-Port Control on the
-- 5462
abbrev pub buffer_0_x : ℕ
buffer_0_x = 100

abbrev pub capture_xstart : ℕ
capture_xstart = 104

abbrev pub capture_xstop : ℕ
capture_xstop = 105

abbrev pub capture_ystart : ℕ
capture_ystart = 106

abbrev pub capture_ystop : ℕ
capture_ystop = 107
